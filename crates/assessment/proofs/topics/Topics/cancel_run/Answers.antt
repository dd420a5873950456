use Rattle.std.proofs.Common.{◌∙◌, ap, refl, subst, sym}
use Rattle.assessment.specs.RunLists.{IsReservedFor}
use Rattle.assessment.specs.TopicsFacts.{TopicsView, topics_facts}
use Rattle.assessment.proofs.RunChanges.RunSteps.{told-same}
use Rattle.assessment.proofs.TopicBoards.{standing-same}
use Rattle.assessment.proofs.topics.Topics.cancel_run.Goals as goal

pub drop_lists-requires : goal.drop_lists-requires
drop_lists-requires c = subst (λ (all : TopicsView). IsReservedFor c.args.lists.now all.board) (sym c.self.view_is) c.requires

pub invariant_of-self : goal.invariant_of-self
invariant_of-self c =
    let all = c.self.inside in
    let scores = c.drop_lists.ensures.scores in
    standing-same all.topics.items all.topics.items c.drop_lists.new.board all.board refl scores c.self.invariant

pub returns : goal.returns
returns c =
    let all = c.self.inside in
    let scores = c.drop_lists.ensures.scores in
    record {
      facts = told-same all.topics.items all.topics.items c.drop_lists.new.board all.board refl scores ∙ ap topics_facts c.self.view_is;
      none = c.drop_lists.ensures.none;
    }
