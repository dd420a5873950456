-- What a state keeps while a request is answered: the campaign stays, and docnos and numbers may join those of the history.
use Rattle.std.proofs.Common.{◌≡◌, ◌≤◌, ◌∙◌, List, [], None, Option, Some, false, length, map, ap, refl, subst, sym, take, take_all, arith}
use Rattle.std.specs.Option.{option_map}
use Rattle.std.specs.Prelude.{MatchOption}
use Rattle.assessment.specs.Changes.{Facts, facts}
use Rattle.rulebook.specs.declared.limits.TheConstants.{MAX_DOCNOS, MAX_ENTRIES, MAX_LINES, MAX_MOMENT, MAX_RUNS}
use Rattle.rulebook.specs.declared.rules.Phase.TheVariants.{Collecting}
use Rattle.rulebook.specs.Answers.{moment_after}
use Rattle.rulebook.specs.Campaign.{History, has_topics, phase, runs, submitted_lines}
use Rattle.rulebook.specs.Histories.Legal.{IsLegal}
use Rattle.rulebook.specs.Words.{Text}
use Rattle.campaign_core.specs.Growth.{BeginsWith}
use Rattle.campaign_core.specs.CampaignStates.{IsAssessmentOf, IsKept, IsKnown, IsReadyWith, IsUnchanged, IsUnjudged}
use Rattle.campaign_core.specs.Numbering.NumberedRequests.{NumberedRequest, numbers_of}
use Rattle.campaign_core.specs.Numbering.Numbers.{names_of}
use Rattle.campaign_core.specs.Numbering.Submissions.{AreSubmissions, RunsAreKnown, live_numbers}
use Rattle.campaign_core.specs.Assessments.Topics.{labelled_of}
use Rattle.campaign_core.specs.declared.campaign.Campaign.{Campaign}
use Rattle.campaign_core.specs.declared.state.State.TheInside.{Inside}

pub unchanged : (campaign : Campaign) → IsUnchanged campaign campaign
unchanged campaign = record { history_is = refl; phase_is = refl; facts_are = refl; submissions_are = refl; live_are = refl; lines_are = refl }

-- what is known of a campaign that stays
pub known-still : (old new : Campaign) → IsUnchanged old new → IsKnown old → IsKnown new
known-still old new same known =
    let back = sym same.history_is in
    let facts_back = sym same.facts_are in
    record {
      legal = subst IsLegal back known.legal;
      phase_is = same.phase_is ∙ known.phase_is ∙ ap phase back;
      moment_fits = subst (λ (H : History). moment_after H 0 ≤ MAX_MOMENT) back known.moment_fits;
      entries_fit = subst (λ (H : History). length H ≤ MAX_ENTRIES) back known.entries_fit;
      lines_fit = subst (λ (H : History). submitted_lines H ≤ MAX_LINES) back known.lines_fit;
      docnos_fit = subst (λ (H : History). length (names_of H) ≤ MAX_DOCNOS) back known.docnos_fit;
      runs_fit = subst (λ (H : History). length (runs H) ≤ MAX_RUNS) back known.runs_fit;
      topics_first = subst (λ (H : History). has_topics H ≡ false → runs H ≡ []) back known.topics_first;
      submissions_are = subst (λ (H : History). AreSubmissions H new.submissions.items) back
          (subst (AreSubmissions old.history.items) (sym same.submissions_are) known.submissions_are);
      live_are = same.live_are ∙ known.live_are ∙ ap live_numbers back;
      runs_known = subst RunsAreKnown back known.runs_known;
      lines_are = same.lines_are ∙ known.lines_are ∙ ap submitted_lines back;
      assessed = subst (λ (H : History). IsAssessmentOf H (facts new.assessment)) back (subst (IsAssessmentOf old.history.items) facts_back known.assessed);
      unjudged = subst (λ (H : History). phase H ≡ Collecting → IsUnjudged H (map labelled_of (facts new.assessment).topics.topics)) back
          (subst (λ (k : Facts). phase old.history.items ≡ Collecting → IsUnjudged old.history.items (map labelled_of k.topics.topics))
          facts_back known.unjudged);
    }

-- docnos and numbers that are cut to those of the history

pub names-cut : (s : Inside) → IsKept s → take s.docnos_kept s.docnos ≡ names_of s.campaign.history.items
names-cut s kept = ap (λ n. take n s.docnos) kept.docnos_kept_are ∙ kept.docnos_are

pub numbers-cut : (s : Inside) → IsKept s → take s.numbers_kept s.numbers ≡ numbers_of s.campaign.history.items
numbers-cut s kept = ap (λ n. take n s.numbers) kept.numbers_kept_are ∙ kept.numbers_are

all-begins : {X : Type 0} (first all : List X) → all ≡ first → BeginsWith first all
all-begins first all is = rw is (take_all (length first) first (omega arith))

pub names-kept : (s : Inside) (names : List Text) → names ≡ take s.docnos_kept s.docnos → BeginsWith (take s.docnos_kept s.docnos) names
names-kept s names is = all-begins (take s.docnos_kept s.docnos) names is

pub numbers-kept : (s : Inside) (numbers : List NumberedRequest) → numbers ≡ take s.numbers_kept s.numbers → BeginsWith (take s.numbers_kept s.numbers) numbers
numbers-kept s numbers is = all-begins (take s.numbers_kept s.numbers) numbers is

pub names-begin : (s : Inside) → IsKept s → BeginsWith (take s.docnos_kept s.docnos) s.docnos
names-begin s kept = subst (λ (names : List Text). BeginsWith names s.docnos) (sym (names-cut s kept)) kept.docnos_are

pub numbers-begin : (s : Inside) → IsKept s → BeginsWith (take s.numbers_kept s.numbers) s.numbers
numbers-begin s kept = subst (λ (all : List NumberedRequest). BeginsWith all s.numbers) (sym (numbers-cut s kept)) kept.numbers_are

-- what was kept and cut stays kept, with what joined it and what is prepared now
pub kept-on : (old new : Inside) → IsKept old → IsUnchanged old.campaign new.campaign → new.docnos_kept ≡ old.docnos_kept → new.numbers_kept ≡ old.numbers_kept
    → BeginsWith (take old.docnos_kept old.docnos) new.docnos → BeginsWith (take old.numbers_kept old.numbers) new.numbers
    → MatchOption new.prepared (new.campaign.assessment.pending ≡ None) (λ p. IsReadyWith new.campaign new.docnos new.numbers p.value) → IsKept new
kept-on old new kept same docnos_kept numbers_kept docnos numbers ready =
    let back = sym same.history_is in
    record {
      known = known-still old.campaign new.campaign same kept.known;
      on_board = ap (λ (known : Facts). known.on_board) same.facts_are ∙ kept.on_board;
      docnos_are = subst (λ (H : History). BeginsWith (names_of H) new.docnos) back
          (subst (λ (names : List Text). BeginsWith names new.docnos) (names-cut old kept) docnos);
      docnos_kept_are = docnos_kept ∙ kept.docnos_kept_are ∙ ap (λ (H : History). length (names_of H)) back;
      numbers_are = subst (λ (H : History). BeginsWith (numbers_of H) new.numbers) back
          (subst (λ (all : List NumberedRequest). BeginsWith all new.numbers) (numbers-cut old kept) numbers);
      numbers_kept_are = numbers_kept ∙ kept.numbers_kept_are ∙ ap (λ (H : History). length (numbers_of H)) back;
      ready = ready;
    }

nothing-ready : {X Y : Type 0} (f : X → Y) (Idle : Type 0) (P : X → Type 0) (o : Option X) → option_map f o ≡ None → Idle → MatchOption o Idle P
nothing-ready f Idle P None is idle = idle
nothing-ready f Idle P (Some x) is idle = cc is

nothing-pending : {X Y : Type 0} (f : X → Y) (Idle : Type 0) (P : X → Type 0) (o : Option X) → option_map f o ≡ None → MatchOption o Idle P → Idle
nothing-pending f Idle P None is idle = idle
nothing-pending f Idle P (Some x) is ready = cc is

-- where no entry is prepared, no change is pending
pub idle-of : (s : Inside) → IsKept s → option_map (λ p. p.value) s.prepared ≡ None → s.campaign.assessment.pending ≡ None
idle-of s kept none =
    nothing-pending (λ p. p.value) (s.campaign.assessment.pending ≡ None) (λ p. IsReadyWith s.campaign s.docnos s.numbers p.value) s.prepared none kept.ready

-- the same, where nothing is prepared and nothing is pending
pub kept-idle : (old new : Inside) → IsKept old → IsUnchanged old.campaign new.campaign
    → new.docnos_kept ≡ old.docnos_kept → new.numbers_kept ≡ old.numbers_kept
    → BeginsWith (take old.docnos_kept old.docnos) new.docnos → BeginsWith (take old.numbers_kept old.numbers) new.numbers
    → option_map (λ p. p.value) new.prepared ≡ None → new.campaign.assessment.pending ≡ None → IsKept new
kept-idle old new kept same docnos_kept numbers_kept docnos numbers none idle =
    kept-on old new kept same docnos_kept numbers_kept docnos numbers
    (nothing-ready (λ p. p.value) (new.campaign.assessment.pending ≡ None)
    (λ p. IsReadyWith new.campaign new.docnos new.numbers p.value) new.prepared none idle)
