-- Settings and a disk that are told: what is refused or damaged, or another campaign's, is told, and what may be opened is.
use Rattle.std.proofs.Common.{◌≡◌, ◌⊎◌, inl, inr, ℕ, List, [], ◌∷◌, Option, Some, None, refl, sym, ap, subst, ◌∙◌}
use Rattle.std.specs.Prelude.{IfSome}
use Rattle.disk_model.specs.Disks.{DiskState}
use Rattle.journal.specs.Format.{decode}
use Rattle.rulebook.specs.declared.rules.Rules.{Rules}
use Rattle.rulebook.specs.Campaign.{History, rules_of}
use Rattle.rulebook.specs.Words.{Text}
use Rattle.book.specs.declared.faults.BookFault.{BookFault}
use Rattle.book.specs.declared.faults.BookFault.TheVariants as fault
use Rattle.book.specs.Books.{BookView}
use Rattle.book.specs.Opening.Openings.{DiffersFrom, Opened, OpensWith, ReadsPayloads, Refused}
use Rattle.book.specs.Opening.OpeningLaws.{opens_or_memory, opens_unbroken, story_unbroken}
use Rattle.book.specs.Stories.{BreaksAt}
use Rattle.campaign_settings.specs.declared.settings.Settings.{Settings}
use Rattle.campaign_settings.specs.Settings.{settings_of}
use Rattle.campaign_cli.specs.declared.endings.Cause.TheVariants as cause
use Rattle.campaign_cli.specs.Ends.BookEnds.{BookWay, CanOpen, TellsSettings, Unopened, cause_by_work, cause_of_fault, cause_of_none, missed, not_opened, not_told, refused, settings_file, short as no_memory, unopened, unset, worked}
use Rattle.campaign_cli.specs.Causes.{Ending, silent}
use Rattle.campaign_cli.specs.Surroundings.Outside.{Outside}
use Rattle.campaign_cli.specs.Surroundings.Shelves.{GivesFile}
use Rattle.campaign_cli.specs.Statuses.{IsCalm, IsDamaged, IsOfOthers, TellsDisk}
use Rattle.campaign_cli.proofs.ToldCauses.{IsOrShort, TellsOthers}
use Rattle.campaign_cli.proofs.ToldFiles.{not_missed, told_settings}

-- what was read of bytes that are told
read_of : (told : Option (List ℕ)) (bytes : List ℕ) (payloads : List Text) → told ≡ Some bytes → ReadsPayloads told payloads → decode bytes ≡ Some payloads
read_of told bytes payloads tells reads = subst (λ (told : Option (List ℕ)). IfSome told (λ bytes. decode bytes ≡ Some payloads)) tells reads

no_records : (told : Option (List ℕ)) (bytes : List ℕ) → told ≡ Some bytes → IfSome told (λ bytes. decode bytes ≡ None) → decode bytes ≡ None
no_records told bytes tells none = subst (λ (told : Option (List ℕ)). IfSome told (λ bytes. decode bytes ≡ None)) tells none

same_records : (bytes : List ℕ) (first second : List Text) → decode bytes ≡ Some first → decode bytes ≡ Some second → first ≡ second
same_records bytes first second one other =
    let both : Some first ≡ Some second = sym one ∙ other in
    cc both

-- bytes that give records whose entries don't break aren't damaged
not_damaged : (rules : Rules) (bytes : List ℕ) (payloads : List Text) → decode bytes ≡ Some payloads
    → ((entry : ℕ) → BreaksAt payloads entry → ⊥) → IsDamaged rules bytes → ⊥
not_damaged rules bytes payloads decodes whole (inl none) =
    let both : Some payloads ≡ None = sym decodes ∙ none in
    cc both
not_damaged rules bytes payloads decodes whole (inr (read, entry, reads, at)) =
    whole entry (subst (λ (p : List Text). BreaksAt p entry) (same_records bytes read payloads reads decodes) at)

-- a campaign with these records isn't another one's
not_of_others : (rules : Rules) (payloads : List Text) (K : History) → DiffersFrom rules payloads → OpensWith rules payloads K → ⊥
not_of_others rules [] K differs opens = differs.0 refl
not_of_others rules (first ∷ others) K (some, (H, only, other)) opens = other (ap rules_of (sym (only.1 K opens.0.0)) ∙ opens.1)

module _ {D : Type 0} (seen : D → DiskState) where
  -- the disk told records, and these entries are those of a campaign of the rules
  abbrev pub OpensStory : Rules → D → Type 0
  OpensStory rules disk = (payloads : List Text) × (H : History) × ReadsPayloads (seen disk).content payloads × OpensWith rules payloads H

  -- so it is with an opened book
  pub book_opens : (rules : Rules) (disk : D) (book : BookView D) → Opened seen rules disk book → OpensStory rules disk
  book_opens rules disk book opens = (opens.payloads, book.history, opens.reads, opens.opens)

  module _ (old new : Outside D) (calm : IsCalm seen old new) where
    -- with settings that are told and accepted there is no campaign for want of memory, or since the disk isn't opened under them
    module _ (settings : Settings) (told : TellsSettings old.shelf (λ text. settings_of text ≡ Some settings)) where
      one : (text : List ℕ) (found : Settings) → GivesFile old.shelf settings_file text → settings_of text ≡ Some found → found ≡ settings
      one text found gives is =
          let here = told_settings old.shelf text (λ bytes. settings_of bytes ≡ Some settings) told gives in
          cc (here, is)

      why_none : (P : Ending → Type 0) → P (silent cause.Memory)
          → ((why : BookFault) → Refused seen settings.rules old.disk new.disk why → P (cause_of_fault why))
          → (none : Unopened seen old.shelf new.shelf old.disk new.disk) → P (cause_of_none seen none)
      why_none P short fails (unset (refused (text, gives, none)) same) =
          let both : None ≡ Some settings = sym none ∙ told_settings old.shelf text (λ bytes. settings_of bytes ≡ Some settings) told gives in
          absurd (cc both)
      why_none P short fails (unset (missed miss) same) = absurd (not_missed old.shelf new.shelf settings_file told.1 told.0 told.2 told.3 calm.shelf miss)
      why_none P short fails (unset no_memory same) = short
      why_none P short fails (not_opened why (text, found, gives, is, given_up)) =
          fails why (subst (λ (s : Settings). Refused seen s.rules old.disk new.disk why) (one text found gives is) given_up)
      why_none P short fails (not_told entry given_up) = short

    -- a disk that may be opened is, or memory is short
    pub none_opened : CanOpen seen old → (none : Unopened seen old.shelf new.shelf old.disk new.disk) → cause_of_none seen none ≡ silent cause.Memory
    none_opened (files, text, there, at, (settings, reads, (payloads, (bytes, tells, decodes), may))) none =
        why_none settings (files, text, there, at, reads) (λ e. e ≡ silent cause.Memory) refl
        (λ why given_up. ap cause_of_fault (opens_or_memory seen settings.rules old.disk bytes payloads tells decodes may new.disk why calm.disk given_up)) none

    -- of a command that works on the campaign of the settings
    module _ (Work : Settings → Type 0) (Still : Type 0) (cause_of : (settings : Settings) → Work settings → Ending)
        (opens : (settings : Settings) → Work settings → OpensStory settings.rules old.disk) where
      abbrev pub Way : Type 0
      Way = BookWay seen Work Still old.shelf new.shelf old.disk new.disk

      -- settings that have to be refused are
      pub settings_told : TellsSettings old.shelf (λ bytes. settings_of bytes ≡ None) → (way : Way) → IsOrShort cause.Input (cause_by_work seen cause_of way)
      settings_told has way = by way
        where
          not_read : (text : List ℕ) (settings : Settings) → GivesFile old.shelf settings_file text → settings_of text ≡ Some settings → ⊥
          not_read text settings gives is =
              let both : None ≡ Some settings = sym (told_settings old.shelf text (λ bytes. settings_of bytes ≡ None) has gives) ∙ is in
              cc both

          by : (way : Way) → IsOrShort cause.Input (cause_by_work seen cause_of way)
          by (worked (text, settings, gives, is, work)) = absurd (not_read text settings gives is)
          by (unopened (unset (refused none) same) kept) = inl refl
          by (unopened (unset (missed miss) same) kept) = absurd (not_missed old.shelf new.shelf settings_file has.1 has.0 has.2 has.3 calm.shelf miss)
          by (unopened (unset no_memory same) kept) = inr refl
          by (unopened (not_opened why (text, settings, gives, is, given_up)) kept) = absurd (not_read text settings gives is)
          by (unopened (not_told entry (text, settings, gives, is, given_up)) kept) = absurd (not_read text settings gives is)

      -- a damaged disk is told, or memory is short
      pub damage_told : TellsDisk seen old IsDamaged → (way : Way) → IsOrShort cause.Damaged (cause_by_work seen cause_of way)
      damage_told (files, text, there, at, (settings, reads, (bytes, tells, damaged))) way = by way
        where
          by_fault : (why : BookFault) → Refused seen settings.rules old.disk new.disk why → IsOrShort cause.Damaged (cause_of_fault why)
          by_fault fault.Disk given_up = absurd (calm.disk given_up.causes)
          by_fault fault.Header given_up = inl refl
          by_fault (fault.Damaged entry) given_up = inl refl
          by_fault fault.RulesDiffer given_up =
              let differs = given_up.causes in
              absurd (not_damaged settings.rules bytes differs.0 (read_of (seen old.disk).content bytes differs.0 tells differs.1)
              (λ entry at. story_unbroken differs.0 differs.2.1.0 entry differs.2.1.1.0 at) damaged)
          by_fault fault.Memory given_up = inr refl

          by : (way : Way) → IsOrShort cause.Damaged (cause_by_work seen cause_of way)
          by (worked (read, found, gives, is, work)) =
              let story = opens found work in
              absurd (not_damaged found.rules bytes story.0 (read_of (seen old.disk).content bytes story.0 tells story.2)
              (λ entry at. opens_unbroken found.rules story.0 story.1 entry story.3 at) damaged)
          by (unopened none kept) = why_none settings (files, text, there, at, reads) (IsOrShort cause.Damaged) (inr refl) by_fault none

      -- another campaign's disk is told, or memory is short
      pub others_told : TellsDisk seen old IsOfOthers → (way : Way) → TellsOthers (cause_by_work seen cause_of way)
      others_told (files, text, there, at, (settings, reads, (bytes, tells, (payloads, decodes, differs)))) way = by way
        where
          by_fault : (why : BookFault) → Refused seen settings.rules old.disk new.disk why → TellsOthers (cause_of_fault why)
          by_fault fault.Disk given_up = absurd (calm.disk given_up.causes)
          by_fault fault.Header given_up =
              absurd (not_damaged settings.rules bytes payloads decodes (λ entry at. story_unbroken payloads differs.1.0 entry differs.1.1.0 at)
              (inl (no_records (seen old.disk).content bytes tells given_up.causes.0)))
          by_fault (fault.Damaged entry) given_up =
              let at = given_up.causes in
              let same = same_records bytes at.0 payloads (read_of (seen old.disk).content bytes at.0 tells at.1) decodes in
              absurd (story_unbroken payloads differs.1.0 entry differs.1.1.0 (subst (λ (p : List Text). BreaksAt p entry) same at.2))
          by_fault fault.RulesDiffer given_up = inl refl
          by_fault fault.Memory given_up = inr refl

          by : (way : Way) → TellsOthers (cause_by_work seen cause_of way)
          by (worked (read, found, gives, is, work)) =
              let story = opens found work in
              let same = same_records bytes payloads story.0 decodes (read_of (seen old.disk).content bytes story.0 tells story.2) in
              let there_too : DiffersFrom settings.rules story.0 = subst (DiffersFrom settings.rules) same differs in
              let rules_too : OpensWith settings.rules story.0 story.1 =
              subst (λ (s : Settings). OpensWith s.rules story.0 story.1) (one settings (files, text, there, at, reads) read found gives is) story.3 in
              absurd (not_of_others settings.rules story.0 story.1 there_too rules_too)
          by (unopened none kept) = why_none settings (files, text, there, at, reads) TellsOthers (inr refl) by_fault none
