-- What holds of all commands: from the cause of a way to what the status says.
use Rattle.std.proofs.Common.{◌≡◌, ◌≢◌, ◌≤◌, ◌⊎◌, ◌==◌, inl, inr, ℕ, Bool, true, false, List, Option, Some, None, refl, sym, ap, subst, ◌∙◌, arith, cond}
use Rattle.disk_model.specs.Disks.{DiskState}
use Rattle.decimal_rank.specs.Causes.{Rose}
use Rattle.decimal_rank.specs.Outputs.Writings.{Writing}
use Rattle.campaign_server.specs.Doors.{DoorState}
use Rattle.campaign_server.specs.Links.{LinkState}
use Rattle.release_archive.specs.Keepers.{KeeperState}
use Rattle.campaign_cli.specs.declared.endings.Cause.{Cause}
use Rattle.campaign_cli.specs.declared.endings.Cause.TheVariants.{Done, Usage, Input, File, Disk, Door, Memory, Output, Damaged, Link, Cut, Keeper, Unpublished, Differs, Unknown}
use Rattle.campaign_cli.specs.Ends.BookEnds.{rules_line}
use Rattle.campaign_cli.specs.Causes.{Ending, Prints, PrintsIf, TellsEnding, says, status_number}
use Rattle.campaign_cli.specs.Endings.{kind_of}
use Rattle.campaign_cli.specs.Kinds.{CommandEnded, Finishes, Kind, Leaves, LeavesArchive, LeavesFiles, Needs, StaysUnlessNeeded, ended, unread}
use Rattle.campaign_cli.specs.Surroundings.Outside.{Outside, outside_of}
use Rattle.campaign_cli.specs.Requests.{Request}
use Rattle.campaign_cli.specs.Surroundings.Shelves.{KeepsFiles, ShelfState}
use Rattle.campaign_cli.specs.Statuses.{IsCalm, IsComplete, IsDamaged, IsOfOthers, Means, PrintsAll, PrintsPart, Says, Statuses, TellsDisk}

-- a status has one cause

abbrev cause_by : ℕ → Cause
cause_by n =
    cond (n == 0) Done (cond (n == 2) Usage (cond (n == 3) Input (cond (n == 4) File (cond (n == 5) Disk (cond (n == 6) Door (cond (n == 7) Memory
    (cond (n == 8) Output
    (cond (n == 9) Damaged
    (cond (n == 10) Link (cond (n == 11) Cut (cond (n == 12) Keeper (cond (n == 13) Unpublished (cond (n == 14) Differs Unknown)))))))))))))

cause_by-number : (cause : Cause) → cause_by (status_number cause) ≡ cause
cause_by-number Done = refl
cause_by-number Usage = refl
cause_by-number Input = refl
cause_by-number File = refl
cause_by-number Disk = refl
cause_by-number Door = refl
cause_by-number Memory = refl
cause_by-number Output = refl
cause_by-number Damaged = refl
cause_by-number Link = refl
cause_by-number Cut = refl
cause_by-number Keeper = refl
cause_by-number Unpublished = refl
cause_by-number Differs = refl
cause_by-number Unknown = refl

pub same_cause : (a b : Cause) → status_number a ≡ status_number b → a ≡ b
same_cause a b e = sym (cause_by-number a) ∙ ap cause_by e ∙ cause_by-number b

-- what came of a text that was to be printed with a status

whole_or_part : (text : Option (List ℕ)) (old new : Writing) (status given : ℕ) → PrintsIf text old new status given
    → ((given ≡ status) × PrintsAll text old new) ⊎ ((given ≡ 8) × PrintsPart text old new)
whole_or_part None old new status given prints = inl (prints.1, prints.0)
whole_or_part (Some text) old new status given prints = elim (prints.either) [ inl all ↦ inl all | inr part ↦ inr (part.0, (part.1, part.2)) ]

no_part : (text : Option (List ℕ)) (old new : Writing) → ¬ (Rose old.faults new.faults) → PrintsPart text old new → ⊥
no_part None old new calm part = part
no_part (Some text) old new calm part = calm part.0

-- where no write failed it was printed whole
pub whole : (ending : Ending) (old new : Writing) (status : ℕ) → TellsEnding ending old new status → ¬ (Rose old.faults new.faults)
    → (status ≡ status_number ending.cause) × PrintsAll ending.text old new
whole ending old new status tells calm =
    elim (whole_or_part ending.text old new (status_number ending.cause) status tells)
    [ inl all ↦ all | inr part ↦ absurd (no_part ending.text old new calm part.1) ]

-- a status other than 8 is that of the cause
pub cause_is : (ending : Ending) (old new : Writing) (status : ℕ) (cause : Cause) → TellsEnding ending old new status
    → status ≡ status_number cause → status_number cause ≢ 8 → ending.cause ≡ cause
cause_is ending old new status cause tells e other =
    elim (whole_or_part ending.text old new (status_number ending.cause) status tells)
    [ inl all ↦ same_cause ending.cause cause (sym all.0 ∙ e) | inr part ↦ absurd (other (sym e ∙ part.0)) ]

later_writes : (text : Option (List ℕ)) (old new : Writing) (status given : ℕ) → PrintsIf text old new status given → old.faults ≤ new.faults
later_writes None old new status given prints = omega (arith, ap (λ (w : Writing). w.faults) prints.0)
later_writes (Some text) old new status given prints = prints.later

-- what isn't needed stays

pub still : (shelf : ShelfState) → KeepsFiles shelf shelf
still shelf = record { files = refl; faults = omega arith; misses = omega arith }

follows : (needed : Bool) (old new : ShelfState) → LeavesFiles needed old new → KeepsFiles old new
follows true old new leaves = leaves
follows false old new leaves = subst (KeepsFiles old) (sym leaves) (still old)

later_keeper : (asks adds : Bool) (old new : KeeperState) → LeavesArchive asks adds old new → old.faults ≤ new.faults
later_keeper true true old new leaves = leaves
later_keeper true false old new leaves = leaves.0
later_keeper false adds old new leaves = omega (arith, ap (λ (k : KeeperState). k.faults) leaves)

stays : {T : Type 0} (needed : Bool) (part : T) → StaysUnlessNeeded needed part part
stays true part = tt
stays false part = refl

leaves_files : (needed : Bool) (shelf : ShelfState) → LeavesFiles needed shelf shelf
leaves_files true shelf = still shelf
leaves_files false shelf = refl

leaves_archive : (asks adds : Bool) (keeper : KeeperState) → LeavesArchive asks adds keeper keeper
leaves_archive true true keeper = omega arith
leaves_archive true false keeper = (omega arith, refl)
leaves_archive false adds keeper = refl

leaves_all : {D : Type 0} (needs : Needs) (old : Outside D) → Leaves needs old old
leaves_all needs old = record {
  files = leaves_files needs.files old.shelf;
  own = stays needs.own old.own;
  door = stays needs.door old.door;
  archive = leaves_archive needs.archive needs.adding old.keeper;
  disk = stays needs.book old.disk;
}

-- the outside at the end, by parts that are the same
pub at_end : {D : Type 0} (kind : Kind D) (old : Outside D) (status : ℕ) (out : Writing) (disk : D) (shelf later : ShelfState) (own last : LinkState)
    (door shut : DoorState) (keeper kept : KeeperState) → shelf ≡ later → own ≡ last → door ≡ shut → keeper ≡ kept
    → Finishes kind old (outside_of shelf out own door keeper disk) status → Finishes kind old (outside_of later out last shut kept disk) status
at_end kind old status out disk shelf later own last door shut keeper kept a b c d finishes =
    subst (λ k. Finishes kind old (outside_of later out last shut k disk) status) d
    (subst (λ x. Finishes kind old (outside_of later out last x keeper disk) status) c
    (subst (λ w. Finishes kind old (outside_of later out w door keeper disk) status) b
    (subst (λ s. Finishes kind old (outside_of s out own door keeper disk) status) a finishes)))

-- a cause for which a command refuses its work has this property
abbrev pub IfRefusal : Cause → Type 0 → Type 0
IfRefusal Done P = Unit {0}
IfRefusal Usage P = P
IfRefusal Input P = P
IfRefusal File P = P
IfRefusal Disk P = Unit {0}
IfRefusal Door P = Unit {0}
IfRefusal Memory P = Unit {0}
IfRefusal Output P = Unit {0}
IfRefusal Damaged P = P
IfRefusal Link P = Unit {0}
IfRefusal Cut P = Unit {0}
IfRefusal Keeper P = Unit {0}
IfRefusal Unpublished P = Unit {0}
IfRefusal Differs P = Unit {0}
IfRefusal Unknown P = Unit {0}

-- the cause is this one, or memory was short
abbrev pub IsOrShort : Cause → Ending → Type 0
IsOrShort cause ending = (ending.cause ≡ cause) ⊎ (ending.cause ≡ Memory)

-- another campaign's disk is told, or memory was short
abbrev pub TellsOthers : Ending → Type 0
TellsOthers ending = (ending ≡ says Input rules_line) ⊎ (ending.cause ≡ Memory)

module _ {D : Type 0} (seen : D → DiskState) where
  -- What is shown of a way by its cause: the cause is so, and a command that can do its work, where no call failed, doesn't refuse it.
  abbrev pub Shown : Request → (Outside D → Type 0) → Outside D → Outside D → Ending → Type 0
  Shown request CanDo old new ending =
      Means seen ending.cause ending.text request old new × IfRefusal ending.cause (CanDo old → IsCalm seen old new → ⊥)

  -- what is shown of a command
  pub record Shows (request : Request) (kind : Kind D) (old new : Outside D) : Type 0 where
    pub ways : Leaves kind.needs old new → (way : kind.Way old new) → Shown request kind.can_do old new (kind.cause_of old new way)
    -- where no call failed, what has to be refused is, and a damaged disk and another campaign's are told, or memory was short
    pub refused : IsCalm seen old new → kind.has_to_refuse old → (way : kind.Way old new) → IsOrShort Input (kind.cause_of old new way)
    pub damaged : IsCalm seen old new → kind.needs.book ≡ true → TellsDisk seen old IsDamaged → (way : kind.Way old new)
        → IsOrShort Damaged (kind.cause_of old new way)
    pub differs : IsCalm seen old new → kind.needs.book ≡ true → TellsDisk seen old IsOfOthers → (way : kind.Way old new)
        → TellsOthers (kind.cause_of old new way)

  -- of one that keeps no campaign, and of which nothing has to be refused, the ways are enough
  pub shows_ways : (request : Request) (kind : Kind D) (old new : Outside D) → ¬ (kind.has_to_refuse old) → kind.needs.book ≡ false
      → (Leaves kind.needs old new → (way : kind.Way old new) → Shown request kind.can_do old new (kind.cause_of old new way)) → Shows request kind old new
  shows_ways request kind old new none no_book ways = record {
    ways = ways;
    refused = λ calm has way. absurd (none has);
    damaged = λ calm book told way. cc (book, no_book);
    differs = λ calm book told way. cc (book, no_book);
  }

  complete : (request : Request) (CanDo : Outside D → Type 0) (old new : Outside D) (cause : Cause) (text : Option (List ℕ))
      → CanDo old → (calm : IsCalm seen old new)
      → Means seen cause text request old new → IfRefusal cause (CanDo old → IsCalm seen old new → ⊥) → IsComplete cause
  complete request CanDo old new Done text can calm means able = tt
  complete request CanDo old new Usage text can calm means able = able can calm
  complete request CanDo old new Input text can calm means able = able can calm
  complete request CanDo old new File text can calm means able = able can calm
  complete request CanDo old new Disk text can calm means able = calm.disk means.1
  complete request CanDo old new Door text can calm means able = calm.door means.2
  complete request CanDo old new Memory text can calm means able = tt
  complete request CanDo old new Output text can calm means able = calm.writing means.2
  complete request CanDo old new Damaged text can calm means able = able can calm
  complete request CanDo old new Link text can calm means able = calm.reading means.2
  complete request CanDo old new Cut text can calm means able = tt
  complete request CanDo old new Keeper text can calm means able = calm.keeper means.2
  complete request CanDo old new Unpublished text can calm means able = tt
  complete request CanDo old new Differs text can calm means able = tt
  complete request CanDo old new Unknown text can calm means able = tt

  -- what the status says then
  pub statuses : (request : Request) (old new : Outside D) (status : ℕ) → Shows request (kind_of seen request) old new
      → Finishes (kind_of seen request) old new status → Statuses seen request old new status
  statuses request old new status shows (unread same e) = subst (λ (o : Outside D). Statuses seen request old o status) (sym same) (record {
    known = (Memory, e);
    says = λ cause is. inr (same_cause cause Memory (sym is ∙ e), refl);
    complete = λ can calm. (Memory, e, tt);
    refused = λ has calm. inr e;
    damaged = λ has calm. inr e;
    differs = λ has calm. inr e;
    shelf = still old.shelf;
    write_faults = omega arith;
    keeper_faults = omega arith;
    leaves = leaves_all (kind_of seen request).needs old;
  })
  statuses request old new status shows (ended ending done tells) =
      let kind = kind_of seen request in
      let shown = subst (Shown request kind.can_do old new) (sym done.told) (shows.ways done.leaves done.way) in
      let said = whole_or_part ending.text old.out new.out (status_number ending.cause) status tells in
      record {
        known = elim said [ inl all ↦ (ending.cause, all.0) | inr part ↦ (Output, part.0) ];
        says = λ cause is. inl (record {
          way = done.way;
          ending = ending;
          is = done.told;
          means = shown.0;
          printed = elim said [
            | inl all ↦ inl (same_cause cause ending.cause (sym is ∙ all.0), all.1)
            | inr part ↦ inr (same_cause cause Output (sym is ∙ part.0), part.1)
          ];
        });
        complete = λ can calm. (ending.cause, all calm, complete request kind.can_do old new ending.cause ending.text can calm shown.0 shown.1);
        refused = λ has calm. one_of calm Input (shows.refused calm has done.way);
        damaged = λ has calm. one_of calm Damaged (shows.damaged calm has.0 has.1 done.way);
        differs = λ has calm.
            elim (shows.differs calm has.0 has.1 done.way) [
              | inl is ↦ inl
                  (whole (says Input rules_line) old.out new.out status
                  (subst (λ (e : Ending). TellsEnding e old.out new.out status) (done.told ∙ is) tells) calm.out)
              | inr is ↦ inr (all calm ∙ ap (λ (e : Ending). status_number e.cause) done.told ∙ ap status_number is)
            ];
        shelf = follows kind.needs.files old.shelf new.shelf done.leaves.files;
        write_faults = later_writes ending.text old.out new.out (status_number ending.cause) status tells;
        keeper_faults = later_keeper kind.needs.archive kind.needs.adding old.keeper new.keeper done.leaves.archive;
        leaves = done.leaves;
      }
    where
      all : IsCalm seen old new → status ≡ status_number ending.cause
      all calm = (whole ending old.out new.out status tells calm.out).0

      one_of : IsCalm seen old new → (cause : Cause) → IsOrShort cause ((kind_of seen request).cause_of old new done.way)
          → (status ≡ status_number cause) ⊎ (status ≡ 7)
      one_of calm cause is =
          let e = all calm ∙ ap (λ (e : Ending). status_number e.cause) done.told in
          elim is [ inl one ↦ inl (e ∙ ap status_number one) | inr short ↦ inr (e ∙ ap status_number short) ]
