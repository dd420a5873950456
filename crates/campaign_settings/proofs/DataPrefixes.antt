-- What each of some data is read as, so far.
use Rattle.std.proofs.Common.{◌≡◌, List, [], ◌∷◌, ◌++◌, Option, Some, None, refl, ap, sym, ◌∙◌, option_map, append-nil, append_assoc}
use Rattle.std.specs.Prelude.{option_and_then}
use Rattle.toml.specs.Data.{Data}
use Rattle.campaign_settings.specs.TomlTables.{each_of}

module _ {X : Type 0} (read : Data → Option X) where
  -- what is read of all, where `done` was read before the rest
  pub begun : (ds : List Data) → each_of read ds ≡ option_map (λ rest. [] ++ rest) (each_of read ds)
  begun ds = by (each_of read ds)
    where
      by : (o : Option (List X)) → o ≡ option_map (λ rest. [] ++ rest) o
      by None = refl
      by (Some xs) = refl

  pub more : (done : List X) (d : Data) (ds : List Data) (x : X) (whole : Option (List X))
      → whole ≡ option_map (λ rest. done ++ rest) (each_of read (d ∷ ds)) → read d ≡ Some x
      → whole ≡ option_map (λ rest. (done ++ x ∷ []) ++ rest) (each_of read ds)
  more done d ds x whole before is =
      before ∙ ap (λ o. option_map (λ rest. done ++ rest) (option_and_then (λ x. option_map (λ xs. x ∷ xs) (each_of read ds)) o)) is ∙ by (each_of read ds)
    where
      by : (o : Option (List X)) → option_map (λ rest. done ++ rest) (option_map (λ xs. x ∷ xs) o) ≡ option_map (λ rest. (done ++ x ∷ []) ++ rest) o
      by None = refl
      by (Some xs) = ap Some (sym (append_assoc done (x ∷ []) xs))

  pub failed : (done : List X) (d : Data) (ds : List Data) (whole : Option (List X))
      → whole ≡ option_map (λ rest. done ++ rest) (each_of read (d ∷ ds)) → read d ≡ None → whole ≡ None
  failed done d ds whole before is =
      before ∙ ap (λ o. option_map (λ rest. done ++ rest) (option_and_then (λ x. option_map (λ xs. x ∷ xs) (each_of read ds)) o)) is

  pub whole : (done : List X) (all : Option (List X)) → all ≡ option_map (λ rest. done ++ rest) (each_of read []) → all ≡ Some done
  whole done all is = is ∙ ap Some (append-nil done)
