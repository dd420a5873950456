-- Records that a door is handed, one after another.
use Rattle.std.proofs.Common.{◌≡◌, List, [], ◌∷◌, ◌++◌, Option, None, Some, sym, ap, ◌∙◌, append-nil, append_assoc}
use Rattle.std.proofs.lemmas.List.{map-append}
use Rattle.std.proofs.lemmas.List.Concat.{flat_map-append}
use Rattle.campaign_server.specs.declared.ends.End.{End}
use Rattle.campaign_server.specs.Doors.{EndedLink, HandsOver, Told}
use Rattle.campaign_server.specs.Links.{LinkState}
use Rattle.campaign_server.specs.Crews.Records.{ended_all, ended_of}

pub hands_none : (told : Option Told) → HandsOver told [] told
hands_none (Some told) = ap (λ served. record told { served = served }) (sym (append-nil told.served))
hands_none None = tt

pub hands_more : (a b c : Option Told) (first second : List EndedLink) → HandsOver a first b → HandsOver b second c → HandsOver a (first ++ second) c
hands_more (Some a) (Some b) (Some c) first second one other =
    other ∙ ap (λ (told : Told). record told { served = told.served ++ second }) one
    ∙ ap (λ served. record a { served = served }) (append_assoc a.served first second)
hands_more (Some a) (Some b) None first second one other = other
hands_more (Some a) None c first second one other = absurd one
hands_more None (Some b) c first second one other = absurd one
hands_more None None (Some c) first second one other = other
hands_more None None None first second one other = tt

-- the records that were yielded begin all of them
pub part_of : {R : Type 0} (kept : R → Option LinkState) (done left all : List (R × End)) → done ++ left ≡ all
    → ended_of kept all ≡ ended_of kept done ++ ended_of kept left
part_of kept done left all is = ap (ended_of kept) (sym is) ∙ map-append (λ (one : _ × End). (kept one.0, one.1)) done left

module _ {R A : Type 0} (items : A → List (R × End)) (kept : R → Option LinkState) where
  -- one worker's records behind the others
  pub all_more : (done : List A) (one : A) → ended_all items kept (done ++ one ∷ []) ≡ ended_all items kept done ++ ended_of kept (items one)
  all_more done one = flat_map-append (λ records. ended_of kept (items records)) done (one ∷ [])
      ∙ ap (λ more. ended_all items kept done ++ more) (append-nil (ended_of kept (items one)))

  -- some of one worker's records behind the others
  pub all_part : (done left all : List A) (one : A) (part rest : List EndedLink) → done ++ one ∷ left ≡ all → ended_of kept (items one) ≡ part ++ rest
      → ended_all items kept all ≡ (ended_all items kept done ++ part) ++ (rest ++ ended_all items kept left)
  all_part done left all one part rest is split =
      ap (ended_all items kept) (sym is) ∙ flat_map-append (λ records. ended_of kept (items records)) done (one ∷ left)
      ∙ ap (λ first. ended_all items kept done ++ (first ++ ended_all items kept left)) split
      ∙ ap (λ more. ended_all items kept done ++ more) (append_assoc part rest (ended_all items kept left))
      ∙ sym (append_assoc (ended_all items kept done) part (rest ++ ended_all items kept left))
