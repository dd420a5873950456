-- The texts so far are the docnos of the documents so far.
use Rattle.std.proofs.Common.{◌≡◌, map, take}
use Rattle.decimal_rank.specs.Names.{docno_of}
use Rattle.campaign_core.specs.Texts.{texts_behind}
use Rattle.campaign_core.proofs.pages.texts.docnos_of.Given as goal

abbrev pub invariant-loop-doc : goal.invariant-loop-doc
invariant-loop-doc l = texts_behind l.texts.items ≡ map (λ doc. docno_of l.docnos doc.0) (take l.doc-index l.docs)
