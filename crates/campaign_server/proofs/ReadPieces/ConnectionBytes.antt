-- What a connection comes to, as its pieces are read.
use Rattle.std.proofs.Common.{◌≡◌, ℕ, ◌+◌, ◌<◌, ◌≤◌, ◌^◌, List, [], ◌∷◌, ◌++◌, Bool, true, false, length, refl, sym, ap, ◌∙◌, arith, subst, inl, inr, append-nil, length-append}
use Rattle.std.specs.Prelude.{IfSome, nat_lt}
use Rattle.std.specs.Io.KnownBytes.{IsAtEnd}
use Rattle.std.proofs.KnownBytes.{Appends-nil, Appends-trans, Consumes-nil, Consumes-trans}
use Rattle.std.proofs.lemmas.Bool.{cond_both, ltb-true, ltb-false}
use Rattle.decimal_rank.specs.Causes.{Rose}
use Rattle.http_wire.specs.declared.messages.HttpRequest.{HttpRequest}
use Rattle.http_wire.specs.Heads.{behind_line_ends}
use Rattle.http_wire.specs.Messages.{Needs, ReadsOn, Closed, Refused}
use Rattle.campaign_server.specs.declared.ends.End.{End}
use Rattle.campaign_server.specs.declared.ends.End.TheVariants as end
use Rattle.campaign_server.specs.Conversations.Chains.{Said, requests_of}
use Rattle.campaign_server.specs.Connections.{ConnectionEnds, EndsOn, Hears, IsLast, ReadsNoMore, Spoke, SpokeAll, at_pause}
use Rattle.campaign_server.specs.Links.{Clock, LinkReading, LinkState}
use Rattle.campaign_server.specs.ConnectionLoop.LoopParts.{EndsHere, IsAtPause, IsPiece, IsSoFar, at_end, last_end, worn_end}

pub hears_none : (old : LinkState) → Hears old old []
hears_none old = record { left = Consumes-nil old.reading.left; taken = Appends-nil old.reading.taken }

pub hears_more : (old mid new : LinkState) (bytes piece : List ℕ) → Hears old mid bytes → Hears mid new piece → Hears old new (bytes ++ piece)
hears_more old mid new bytes piece first second = record {
  left = Consumes-trans old.reading.left mid.reading.left new.reading.left bytes piece first.left second.left;
  taken = Appends-trans old.reading.taken mid.reading.taken new.reading.taken bytes piece first.taken second.taken;
}

-- what was heard, where the reading stays
heard_still : (old mid new : LinkState) (bytes : List ℕ) → new.reading ≡ mid.reading → Hears old mid bytes → Hears old new bytes
heard_still old mid new bytes same heard = record { left = rw same heard.left; taken = rw same heard.taken }

none_read : (was : LinkState) → ReadsNoMore was was []
none_read was = record {
  before = [];
  piece = [];
  split = refl;
  few = omega arith;
  last = inr refl;
  requests = [];
  clean = true;
  goes_on = ((Needs, refl, refl), refl);
}

-- no bytes were answered yet
pub so_none : (talks : List Said → Type 0) (was : LinkState) (rest : List ℕ) → rest ≡ [] → talks [] → IsSoFar talks was rest was 0 true
so_none talks was rest none talk = record {
  bytes = [];
  heard = hears_none was;
  no_more = none_read was;
  count = refl;
  pause = record {
    spoke = record {
      said = [];
      split = sym (ap behind_line_ends none);
      talk = talk;
      written = Appends-nil was.writing.written;
      later = omega arith;
    };
    all = record { said = []; are_messages = ((Needs, refl, refl), refl); talk = talk; written = Appends-nil was.writing.written };
  };
}

-- nothing is read behind bytes that go on
pause_no_more : (talks : List Said → Type 0) (was : LinkState) (bytes piece rest : List ℕ) (now is : LinkState) (clean : Bool)
    → IsAtPause talks was bytes rest now clean
    → length piece ≤ 8192 → IsLast is (length piece) → ReadsNoMore was is (bytes ++ piece)
pause_no_more talks was bytes piece rest now is clean pause few last = record {
  before = bytes;
  piece = piece;
  split = refl;
  few = few;
  last = inl last;
  requests = requests_of pause.all.said;
  clean = clean;
  goes_on = pause.all.are_messages;
}

-- and the last read gave nothing
pause_stands : (talks : List Said → Type 0) (was : LinkState) (bytes rest : List ℕ) (now is : LinkState) (clean : Bool)
    → IsAtPause talks was bytes rest now clean → IsLast is 0
    → ReadsNoMore was is bytes
pause_stands talks was bytes rest now is clean pause last =
    subst (ReadsNoMore was is) (append-nil bytes) (pause_no_more talks was bytes [] rest now is clean pause (omega arith) last)

module _ (talks : Clock → List Said → Type 0) (was : LinkState) (rest : List ℕ) (now : LinkState) (taken : ℕ)
    (clean : Bool) (so : IsSoFar (talks now.clock) was rest now taken clean) where
  -- a piece is fed
  pub piece_spoken : (laws : (bytes : List ℕ) (requests : List HttpRequest) (old new more : List ℕ) → ReadsOn bytes requests old new more)
      (piece : List ℕ) (mid : LinkState)
      → mid.writing ≡ now.writing → mid.clock ≡ now.clock → Spoke (talks mid.clock) was (so.bytes ++ piece) (rest ++ piece) mid
  piece_spoken laws piece mid writing clock = record {
    said = so.pause.spoke.said;
    split = (laws so.bytes (requests_of so.pause.spoke.said) rest rest piece).fed so.pause.spoke.split;
    talk = subst (λ c. talks c so.pause.spoke.said) (sym clock) so.pause.spoke.talk;
    written = rw writing so.pause.spoke.written;
    later = rw writing so.pause.spoke.later;
  }

  -- all whole requests are answered, and nothing was written since
  all_still : (mid : LinkState) → mid.writing ≡ now.writing → mid.clock ≡ now.clock → SpokeAll (talks mid.clock) was so.bytes mid (at_pause clean)
  all_still mid writing clock = record {
    said = so.pause.all.said;
    are_messages = so.pause.all.are_messages;
    talk = subst (λ c. talks c so.pause.all.said) (sym clock) so.pause.all.talk;
    written = rw writing so.pause.all.written;
  }

  -- a read failed
  pub ends_read_fault : (mid : LinkState) → Hears now mid [] → IsLast mid 0 → mid.writing ≡ now.writing
      → mid.clock ≡ now.clock → was.reading.faults ≤ now.reading.faults
      → Rose now.reading.faults mid.reading.faults → ConnectionEnds (talks mid.clock) was mid end.ReadFault
  ends_read_fault mid heard last writing clock later rose = record {
    bytes = so.bytes;
    heard = subst (Hears was mid) (append-nil so.bytes) (hears_more was now mid so.bytes [] so.heard heard);
    ends = ((clean, all_still mid writing clock), let risen : Rose was.reading.faults mid.reading.faults = grind arith in risen);
    no_more = pause_stands (talks now.clock) was so.bytes rest now mid clean so.pause last;
  }

  -- there was no memory for a piece
  pub ends_memory : (laws : (bytes : List ℕ) (requests : List HttpRequest) (old new more : List ℕ) → ReadsOn bytes requests old new more)
      (piece : List ℕ) (mid : LinkState)
      → length piece ≤ 8192 → Hears now mid piece → IsLast mid (length piece) → mid.writing ≡ now.writing
      → mid.clock ≡ now.clock → ConnectionEnds (talks mid.clock) was mid end.Memory
  ends_memory laws piece mid few heard last writing clock = record {
    bytes = so.bytes ++ piece;
    heard = hears_more was now mid so.bytes piece so.heard heard;
    ends = (rest ++ piece, piece_spoken laws piece mid writing clock);
    no_more = pause_no_more (talks now.clock) was so.bytes piece rest now mid clean so.pause few last;
  }

  -- the end of the link
  pub ends_at_end : (piece : List ℕ) (mid : LinkState) → length piece ≡ 0 → Hears now mid piece → IsLast mid 0
      → IsAtEnd mid.reading.left → mid.writing ≡ now.writing → mid.clock ≡ now.clock → taken < 2 ^ 40
      → ConnectionEnds (talks mid.clock) was mid (at_end clean)
  ends_at_end piece mid none heard last at_end_ writing clock few = record {
    bytes = so.bytes;
    heard = subst (Hears was mid) (empty_behind so.bytes piece none) (hears_more was now mid so.bytes piece so.heard heard);
    ends = by_clean clean (all_still mid writing clock);
    no_more = pause_stands (talks now.clock) was so.bytes rest now mid clean so.pause last;
  }
    where
      empty_behind : (bytes piece : List ℕ) → length piece ≡ 0 → bytes ++ piece ≡ bytes
      empty_behind bytes [] none = append-nil bytes
      empty_behind bytes (b ∷ piece) none = absurd (omega (arith, none))

      fewer : length so.bytes < 2 ^ 40
      fewer = omega (arith, few, so.count)

      by_clean : (c : Bool) → SpokeAll (talks mid.clock) was so.bytes mid (at_pause c) → EndsOn (talks mid.clock) so.bytes was mid (at_end c)
      by_clean true all = (fewer, inl (at_end_, all))
      by_clean false all = (fewer, at_end_, all)

  -- as many bytes were taken as may be
  pub ends_worn : taken ≡ 2 ^ 40 → ConnectionEnds (talks now.clock) was now end.Worn
  ends_worn full = record {
    bytes = so.bytes;
    heard = so.heard;
    ends = (so.count ∙ full, (at_pause clean, so.pause.all));
    no_more = so.no_more;
  }

  -- the bytes before a piece that was read went on
  piece_no_more : (piece : List ℕ) (mid : LinkState) (count : ℕ) (is : LinkState) → IsPiece taken piece count
      → IsLast mid count → is.reading ≡ mid.reading → ReadsNoMore was is (so.bytes ++ piece)
  piece_no_more piece mid count is sized last reading =
      pause_no_more (talks now.clock) was so.bytes piece rest now is clean so.pause (omega (arith, sized.size, sized.few))
      (subst (λ (r : LinkReading). IfSome r.last (λ given. given ≡ length piece)) (sym reading) (subst (IsLast mid) (sym sized.size) last))

  -- all requests of the piece are answered, and more is read
  pub so_more : (other : Clock → List Said → Type 0) (piece : List ℕ) (mid : LinkState) (count : ℕ) (after : List ℕ) (is : LinkState) (next : Bool)
      → IsPiece taken piece count → Hears now mid piece → IsLast mid count
      → IsAtPause (other is.clock) was (so.bytes ++ piece) after is next → is.reading ≡ mid.reading → IsSoFar (other is.clock) was after is (taken + count) next
  so_more other piece mid count after is next sized heard last pause reading = record {
    bytes = so.bytes ++ piece;
    heard = heard_still was mid is (so.bytes ++ piece) reading (hears_more was now mid so.bytes piece so.heard heard);
    no_more = piece_no_more piece mid count is sized last reading;
    count = length-append so.bytes piece ∙ ap (λ n. n + length piece) so.count ∙ ap (λ n. taken + n) sized.size;
    pause = pause;
  }

  -- the connection ends within a piece
  pub ends_last : (other : Clock → List Said → Type 0) (piece : List ℕ) (mid : LinkState) (count : ℕ) (is : LinkState) (e : End)
      → IsPiece taken piece count → Hears now mid piece → IsLast mid count
      → EndsHere (other is.clock) was (so.bytes ++ piece) is e → is.reading ≡ mid.reading → ConnectionEnds (other is.clock) was is (last_end e (taken + count))
  ends_last other piece mid count is e sized heard last here reading = record {
    bytes = so.bytes ++ piece;
    heard = heard_still was mid is (so.bytes ++ piece) reading (hears_more was now mid so.bytes piece so.heard heard);
    ends = cond_both (nat_lt (taken + count) (2 ^ 40)) e (worn_end e) (λ x. EndsOn (other is.clock) (so.bytes ++ piece) was is x)
        (λ few. by_end e here (omega (arith, ltb-true (taken + count) (2 ^ 40) few, size)))
        (λ full. by_worn e here
        (let all : length (so.bytes ++ piece) ≡ 2 ^ 40 = omega (arith, ltb-false (taken + count) (2 ^ 40) full, size, sized.room) in all));
    no_more = piece_no_more piece mid count is sized last reading;
  }
    where
      size : length (so.bytes ++ piece) ≡ taken + count
      size = length-append so.bytes piece ∙ ap (λ n. n + length piece) so.count ∙ ap (λ n. taken + n) sized.size

      by_end : (x : End) → EndsHere (other is.clock) was (so.bytes ++ piece) is x → length (so.bytes ++ piece) < 2 ^ 40
          → EndsOn (other is.clock) (so.bytes ++ piece) was is x
      by_end end.Ended ends few = (few, inr ends)
      by_end (end.Refused cause) ends few = (few, ends)
      by_end end.WriteFault ends few = ends
      by_end end.Memory ends few = ends
      by_end end.Cut ends few = absurd ends
      by_end end.ReadFault ends few = absurd ends
      by_end end.Worn ends few = absurd ends

      by_worn : (x : End) → EndsHere (other is.clock) was (so.bytes ++ piece) is x → length (so.bytes ++ piece) ≡ 2 ^ 40
          → EndsOn (other is.clock) (so.bytes ++ piece) was is (worn_end x)
      by_worn end.Ended ends full = (full, (Closed, ends))
      by_worn (end.Refused cause) ends full = (full, (Refused cause, ends))
      by_worn end.WriteFault ends full = ends
      by_worn end.Memory ends full = ends
      by_worn end.Cut ends full = absurd ends
      by_worn end.ReadFault ends full = absurd ends
      by_worn end.Worn ends full = absurd ends

-- there was no memory before the first read
pub ends_before : (talks : List Said → Type 0) (was : LinkState) → talks [] → ConnectionEnds talks was was end.Memory
unfolding so_none
ends_before talks was talk = record {
  bytes = [];
  heard = hears_none was;
  ends = ([], (so_none talks was [] refl talk).pause.spoke);
  no_more = none_read was;
}
