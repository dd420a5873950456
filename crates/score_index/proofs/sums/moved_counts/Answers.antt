use Rattle.std.proofs.Common.{◌∷◌, [], List, ℕ, ap, get_or, nat_le}
use Rattle.score_index.proofs.Cells.SumSteps.{moved-one}
use Rattle.score_index.proofs.sums.moved_counts.Goals as goal

pub returns : goal.returns
returns c = λ counts at_is i.
    moved-one c.args.on (nat_le c.args.place 5) (counts 5) (get_or c.args.at 0 0) c.moved_count.result c.moved_count.ensures
    (ap (λ (at : List ℕ). get_or at 0 0) at_is) i
    ∷ moved-one c.args.on (nat_le c.args.place 10) (counts 10) (get_or c.args.at 1 0) c.moved_count-2.result c.moved_count-2.ensures
    (ap (λ (at : List ℕ). get_or at 1 0) at_is) i
    ∷ moved-one c.args.on (nat_le c.args.place 15) (counts 15) (get_or c.args.at 2 0) c.moved_count-3.result c.moved_count-3.ensures
    (ap (λ (at : List ℕ). get_or at 2 0) at_is) i
    ∷ moved-one c.args.on (nat_le c.args.place 20) (counts 20) (get_or c.args.at 3 0) c.moved_count-4.result c.moved_count-4.ensures
    (ap (λ (at : List ℕ). get_or at 3 0) at_is) i
    ∷ moved-one c.args.on (nat_le c.args.place 30) (counts 30) (get_or c.args.at 4 0) c.moved_count-5.result c.moved_count-5.ensures
    (ap (λ (at : List ℕ). get_or at 4 0) at_is) i
    ∷ moved-one c.args.on (nat_le c.args.place 100) (counts 100) (get_or c.args.at 5 0) c.moved_count-6.result c.moved_count-6.ensures
    (ap (λ (at : List ℕ). get_or at 5 0) at_is) i
    ∷ moved-one c.args.on (nat_le c.args.place 200) (counts 200) (get_or c.args.at 6 0) c.moved_count-7.result c.moved_count-7.ensures
    (ap (λ (at : List ℕ). get_or at 6 0) at_is) i
    ∷ moved-one c.args.on (nat_le c.args.place 500) (counts 500) (get_or c.args.at 7 0) c.moved_count-8.result c.moved_count-8.ensures
    (ap (λ (at : List ℕ). get_or at 7 0) at_is) i
    ∷ moved-one c.args.on (nat_le c.args.place 1000) (counts 1000) (get_or c.args.at 8 0) c.moved_count-9.result c.moved_count-9.ensures
    (ap (λ (at : List ℕ). get_or at 8 0) at_is) i
    ∷ []
