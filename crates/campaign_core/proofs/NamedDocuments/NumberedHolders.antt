-- The runs that hold a document, by their numbers.
use Rattle.std.proofs.Common.{◌≡◌, ◌∙◌, ℕ, Bool, true, false, cond, List, [], ◌∷◌, ap, filter, map, refl}
use Rattle.depth_pool.specs.Holdings.{Held, has_doc, holders_of}
use Rattle.depth_pool.specs.declared.runs.RunId.{RunId}
use Rattle.rulebook.specs.Campaign.{History, Run, docnos, held_documents, numbered_runs, run_holds}
use Rattle.rulebook.specs.Words.{Text, contains_text}
use Rattle.campaign_core.specs.Numbering.NumberedHolders.{HoldersByNumbers}
use Rattle.campaign_core.specs.Numbering.Numbers.{are_named, doc_in, names_of}
use Rattle.campaign_core.specs.Assessments.Topics.{held_of}
use Rattle.campaign_core.specs.Numbering.Submissions.{run_id_of}
use Rattle.campaign_core.proofs.Entries.Runs.LiveRuns.{numbered-named}
use Rattle.campaign_core.proofs.NamedDocuments.RunOrder.{has-same}
use Rattle.campaign_core.proofs.Lists.Elements.{Each}
use Rattle.campaign_core.proofs.PageTexts.PoolTexts.{held-named}

module _ (H : History) (topic doc : Text) (there : contains_text (names_of H) doc ≡ true) where
  abbrev passes : Held → Bool
  passes one = has_doc (doc_in (names_of H) doc) one.docs

  abbrev holds_it : ℕ × Run → Bool
  holds_it p = run_holds H topic p.1 doc

  abbrev run_of : Held → RunId
  run_of one = one.run

  among : (ps : List (ℕ × Run)) → Each (λ p. are_named (names_of H) (docnos p.1.lists) ≡ true) ps
      → holders_of (doc_in (names_of H) doc) (map (held_of H topic) ps) ≡ map run_id_of (filter holds_it ps)
  among [] named = refl
  among (p ∷ ps) named =
      ap (λ t. map run_of (cond t (held_of H topic p ∷ later) later))
      (has-same (names_of H) (held_documents H topic p.1) doc there (held-named H (names_of H) topic p.1 named.0))
      ∙ step (holds_it p) (among ps named.1)
    where
      later : List Held
      later = filter passes (map (held_of H topic) ps)

      step : (t : Bool) → map run_of later ≡ map run_id_of (filter holds_it ps)
          → map run_of (cond t (held_of H topic p ∷ later) later) ≡ map run_id_of (cond t (p ∷ filter holds_it ps) (filter holds_it ps))
      step true rest = ap (λ runs. run_id_of p ∷ runs) rest
      step false rest = rest

pub holders-numbered : HoldersByNumbers
holders-numbered H topic doc there = among H topic doc there (numbered_runs H) (numbered-named H)
