use Rattle.http_wire.proofs.HeadSearches.{searched_none}
use Rattle.http_wire.proofs.fronts.look_in_body.Goals as goal

pub returns-then-is_given-clause-searched : goal.returns-then-is_given-clause-searched
returns-then-is_given-clause-searched c = searched_none _

pub returns-then-is_empty-clause-searched : goal.returns-then-is_empty-clause-searched
returns-then-is_empty-clause-searched c = searched_none _

pub returns-clause-searched : goal.returns-clause-searched
returns-clause-searched c = searched_none _
