-- The ids of the topics that are kept, and the docnos after a command that brings none.
use Rattle.std.proofs.Common.{◌≡◌, ◌∷◌, [], List, map, refl, ap, ◌∙◌}
use Rattle.std.proofs.lemmas.List.{append-nil}
use Rattle.assessment.specs.TopicFacts.{TopicFacts}
use Rattle.rulebook.specs.declared.entry.EntryCore.{EntryCore}
use Rattle.rulebook.specs.Campaign.{History, docnos_with, submitted_docnos}
use Rattle.rulebook.specs.Words.{Text, each_once}
use Rattle.campaign_core.specs.Growth.{lists_in}
use Rattle.campaign_core.specs.Numbering.Numbers.{names_of}
use Rattle.campaign_core.specs.Assessments.Topics.{KeptTopic, kept_topic, kept_topic_of}

pub state-ids : (H : History) (ts : List TopicFacts) (ids : List Text) → map kept_topic ts ≡ map (kept_topic_of H) ids → map (λ (t : TopicFacts). t.id) ts ≡ ids
state-ids H [] [] same = refl
state-ids H [] (id ∷ ids) same = cc same
state-ids H (t ∷ ts) [] same = cc same
state-ids H (t ∷ ts) (id ∷ ids) same =
    let head : kept_topic t ≡ kept_topic_of H id = cc same in
    let tail : map kept_topic ts ≡ map (kept_topic_of H) ids = cc same in
    ap (λ i. i ∷ map (λ (t : TopicFacts). t.id) ts) (ap (λ (k : KeptTopic). k.id) head) ∙ ap (λ is. id ∷ is) (state-ids H ts ids tail)

pub same-names : (H : History) (names : List Text) (core : EntryCore) → lists_in core.command ≡ []
    → names ≡ docnos_with H (lists_in core.command) → names ≡ names_of H
same-names H names core none is = is ∙ ap (docnos_with H) none ∙ ap each_once (append-nil (submitted_docnos H))
