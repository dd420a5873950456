-- A chain of states is a talk over the entries that are seen at its end.
use Rattle.std.proofs.Common.{◌≡◌, ℕ, ◌≤◌, List, [], ◌∷◌, ◌++◌, Bool, true, false, length, drop, refl, sym, ap, ◌∙◌, arith, subst, inl, inr, append-nil, append_assoc, length-append}
use Rattle.std.specs.Prelude.{Option}
use Rattle.std.proofs.Math.Seq.{drop-append_seam}
use Rattle.decimal_rank.specs.Causes.{Rose}
use Rattle.http_wire.specs.declared.messages.HttpRequest.{HttpRequest}
use Rattle.routes.specs.declared.answers.Answered.{Answered}
use Rattle.routes.specs.declared.answers.Answered.TheVariants as answered
use Rattle.routes.specs.declared.keys.KeyRow.{KeyRow}
use Rattle.rulebook.specs.declared.answer.Answer.{Answer}
use Rattle.rulebook.specs.declared.answer.Answer.TheVariants as answers
use Rattle.rulebook.specs.declared.ask.Addressed.{Addressed}
use Rattle.rulebook.specs.declared.ask.Ask.{Ask}
use Rattle.rulebook.specs.declared.ask.Ask.TheVariants.{Act, See}
use Rattle.rulebook.specs.declared.rules.Caller.{Caller}
use Rattle.rulebook.specs.Answers.{answer}
use Rattle.rulebook.specs.Campaign.{History}
use Rattle.rulebook.specs.Histories.Stories.{Story, StartsWith, added_by}
use Rattle.campaign_server.specs.Conversations.Chains.{Said, at_moment, Answers, Chain}
use Rattle.campaign_server.specs.Links.{Clock, Ticks}
use Rattle.campaign_server.specs.Conversations.Stories.{added_since, is_query}
use Rattle.campaign_server.specs.Conversations.Talks.{Before, Between, IsSeen, SaysByRules, Talk, Talks, places_added}
use Rattle.campaign_server.proofs.TalkSteps.SpokenRequests.{rose_later}

asking_adds : (H : History) (who : Caller) (number : Option ℕ) (ask : Ask) (moment : ℕ) → is_query ask ≡ true → (answer H who number ask moment).added ≡ []
asking_adds H who number (See q) moment is = refl
asking_adds H who number (Act c) moment is = let wrong : false ≡ true = is in cc

-- a query adds nothing
query_adds : (H : History) (asked : Addressed) → is_query asked.ask ≡ true → added_by H asked ≡ []
query_adds H asked is = asking_adds H asked.who asked.number asked.ask asked.moment is

pub since_is : (before more after : History) → after ≡ before ++ more → added_since before after ≡ more
since_is before more after is = ap (drop (length before)) is ∙ drop-append_seam before more

-- what stands where an earlier list stood goes on with it
starts_still : (whole mid part : History) → StartsWith whole mid → StartsWith mid part → StartsWith whole part
starts_still whole mid part (later, is) (rest, there) = (rest ++ later, is ∙ ap (λ h. h ++ later) there ∙ append_assoc part rest later)

starts_here : (whole part : History) → whole ≡ part → StartsWith whole part
starts_here whole part is = ([], is ∙ sym (append-nil part))

between_same : (alone : Bool) (n k : ℕ) → k ≡ n → Between alone n k
between_same true n k is = is
between_same false n k is = omega (arith, is)

before_same : (alone : Bool) (s : Story) → Before alone s s
before_same true s = refl
before_same false s = record { longer = starts_here s.list s.list refl; later = omega arith; opening = refl }

-- what a story is followed by begins with it, and no count falls
before_starts : (alone : Bool) (s b : Story) → Before alone s b
    → StartsWith b.list s.list × (s.faults ≤ b.faults) × Between alone (length s.list) (length b.list)
before_starts true s b same =
    (starts_here b.list s.list (ap (λ (x : Story). x.list) same), omega (arith, ap (λ (x : Story). x.faults) same), ap (λ (x : Story). length x.list) same)
before_starts false s b most =
    let (rest, is) = most.longer in
    (most.longer, most.later, let more : length s.list ≤ length b.list = omega (arith, ap length is, length-append s.list rest) in more)

module _ {S : Type 0} (tells : S → Addressed → Answer → S → Type 0) (keys : List KeyRow) (alone : Bool) (look : S → Story)
    (gains : S → List ℕ → S → Type 0) (seen : IsSeen tells alone look gains) where
  -- what one request makes of the story
  record Moves (old : S) (request : HttpRequest) (moment : ℕ) (said : Answered) (mid : S) : Type 0 where
    b : Story
    before : Before alone (look old) b
    more : History
    says : SaysByRules keys b.list request moment said more
    list : (look mid).list ≡ b.list ++ more
    later : b.faults ≤ (look mid).faults
    fault : said ≡ answered.DiskFault → Rose b.faults (look mid).faults
    gained : gains old (places_added b.list more) mid

  -- nothing was told
  stays : (old : S) (request : HttpRequest) (moment : ℕ) (said : Answered) (mid : S) → mid ≡ old → SaysByRules keys (look old).list request moment said []
      → (said ≡ answered.DiskFault → ⊥) → Moves old request moment said mid
  stays old request moment said mid same says no_fault = record {
    b = look old;
    before = before_same alone (look old);
    more = [];
    says = says;
    list = ap (λ (s : S). (look s).list) same ∙ sym (append-nil (look old).list);
    later = omega (arith, ap (λ (s : S). (look s).faults) same);
    fault = λ is. absurd (no_fault is);
    gained = subst (λ s. gains old [] s) (sym same) (seen.none old);
  }

  moves : (old : S) (request : HttpRequest) (moment : ℕ) (said : Answered) (mid : S)
      → Answers tells keys old request moment said mid → Moves old request moment said mid
  moves old request moment (answered.Reply reply query) mid (asked, reads, query_is, told) =
      let (b, before, is, gained) = seen.step old (at_moment asked moment) (answers.Reply reply) mid told in
      let more = added_by b.list (at_moment asked moment) in
      record {
        b = b;
        before = before;
        more = more;
        says = (asked, reads, query_is, is.leads.0, refl);
        list = is.leads.1;
        later = is.later;
        fault = λ wrong. cc;
        gained = subst (λ places. gains old places mid) (ap (places_added b.list) (since_is b.list more (look mid).list is.leads.1)) gained;
      }
  moves old request moment (answered.Route cause) mid (reads, same) = stays old request moment (answered.Route cause) mid same (reads, refl) (λ wrong. cc)
  moves old request moment (answered.Wire cause) mid none = absurd none
  moves old request moment answered.DiskFault mid (asked, reads, told) =
      let (b, before, is, gained) = seen.step old (at_moment asked moment) answers.DiskFault mid told in
      let list : (look mid).list ≡ b.list ++ [] = is.leads.1 ∙ sym (append-nil b.list) in
      record {
        b = b;
        before = before;
        more = [];
        says = (asked, reads, is.leads.0, refl);
        list = list;
        later = is.later;
        fault = λ same. is.leads.2;
        gained = subst (λ places. gains old places mid) (ap (places_added b.list) (since_is b.list [] (look mid).list list)) gained;
      }
  moves old request moment answered.Memory mid (inl same) = stays old request moment answered.Memory mid same refl (λ wrong. cc)
  moves old request moment answered.Memory mid (inr (asked, reads, inl told)) =
      let (b, before, is, gained) = seen.step old (at_moment asked moment) answers.Memory mid told in
      let list : (look mid).list ≡ b.list ++ [] = is.leads ∙ sym (append-nil b.list) in
      record {
        b = b;
        before = before;
        more = [];
        says = refl;
        list = list;
        later = is.later;
        fault = λ wrong. cc;
        gained = subst (λ places. gains old places mid) (ap (places_added b.list) (since_is b.list [] (look mid).list list)) gained;
      }
  moves old request moment answered.Memory mid (inr (asked, reads, inr (reply, query, told))) =
      let (b, before, is, gained) = seen.step old (at_moment asked moment) (answers.Reply reply) mid told in
      let list : (look mid).list ≡ b.list ++ [] = is.leads.1 ∙ ap (λ more. b.list ++ more) (query_adds b.list (at_moment asked moment) query) in
      record {
        b = b;
        before = before;
        more = [];
        says = refl;
        list = list;
        later = is.later;
        fault = λ wrong. cc;
        gained = subst (λ places. gains old places mid) (ap (places_added b.list) (since_is b.list [] (look mid).list list)) gained;
      }

  -- a talk, what it gained, and how the story went on
  pub record Talked (old : S) (clock : Clock) (new : S) (later : Clock) (said : List Said) : Type 0 where
    pub places : List ℕ
    pub talks : Talks alone keys (length (look old).list) (look old).faults clock (look new).list (look new).faults later places said
    pub gained : gains old places new
    pub longer : StartsWith (look new).list (look old).list
    pub fewer : (look old).faults ≤ (look new).faults

  talk_next : (old : S) (clock : Clock) (x : Said) (mid : S) (next : Clock) (new : S) (later : Clock) (said : List Said) → Ticks clock next x.moment
      → Moves old x.request x.moment x.answer mid
      → Talked mid next new later said → Talked old clock new later (x ∷ said)
  talk_next old clock x mid next new later said ticks m behind =
      let (starts, few, between) = before_starts alone (look old) m.b m.before in
      let there : StartsWith (look new).list (m.b.list ++ m.more) = subst (StartsWith (look new).list) m.list behind.longer in
      let after : StartsWith (look mid).list m.b.list = (m.more, m.list) in
      record {
        places = places_added m.b.list m.more ++ behind.places;
        talks = record {
          talk = (
            m.b.list,
            m.more,
            (look mid).faults,
            behind.places,
            record {
              after = between;
              says = m.says;
              stands = there;
              later = omega (arith, few, m.later);
              fault = λ is. rose_later (look old).faults m.b.faults (look mid).faults few (m.fault is);
            },
            refl,
            subst (λ H. Talk alone keys (length H) (look mid).faults (look new).list (look new).faults behind.places said) m.list behind.talks.talk,
          );
          moments = (next, ticks, behind.talks.moments);
        };
        gained = seen.both old mid new (places_added m.b.list m.more) behind.places m.gained behind.gained;
        longer = starts_still (look new).list (look mid).list (look old).list behind.longer
            (starts_still (look mid).list m.b.list (look old).list after starts);
        fewer = omega (arith, few, m.later, behind.fewer);
      }

  pub chain_talks : (old : S) (clock : Clock) (new : S) (later : Clock) (said : List Said) → Chain tells keys old clock new later said
      → Talked old clock new later said
  chain_talks old clock new later [] chain = record {
    places = [];
    talks = record {
      talk = (
        between_same alone (length (look old).list) (length (look new).list) (ap (λ (s : S). length (look s).list) chain.0),
        omega (arith, ap (λ (s : S). (look s).faults) chain.0),
        refl,
      );
      moments = chain.1;
    };
    gained = subst (λ s. gains old [] s) (sym chain.0) (seen.none old);
    longer = starts_here (look new).list (look old).list (ap (λ (s : S). (look s).list) chain.0);
    fewer = omega (arith, ap (λ (s : S). (look s).faults) chain.0);
  }
  chain_talks old clock new later (x ∷ said) (mid, next, ticks, answers, chain) =
      talk_next old clock x mid next new later said ticks (moves old x.request x.moment x.answer mid answers) (chain_talks mid next new later said chain)
