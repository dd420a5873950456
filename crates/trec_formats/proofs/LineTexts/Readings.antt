-- Every text is read in exactly one way.
use Rattle.std.proofs.Common.{◌≡◌, ◌≢◌, ◌⊎◌, inl, inr, ℕ, Bool, List, [], ◌∷◌, ◌++◌, find, refl, sym, ◌∙◌, ap, Option, Some, None, Ok, Err, Result, append_assoc}
use Rattle.std.proofs.lemmas.List.{append-nil, map-append}
use Rattle.std.proofs.lemmas.Option.{none-some, same_Some}
use Rattle.trec_formats.specs.declared.faults.Kind.{Kind}
use Rattle.trec_formats.specs.declared.faults.Kind.TheVariants.{Empty, Twice}
use Rattle.trec_formats.specs.declared.faults.FormatFault.{FormatFault}
use Rattle.trec_formats.specs.Faults.{ExactlyOne, Stand, IsFirstFault, IsEmpty, IsReadAs, Repeats, IsDistinct, IsTwice, IsReadOnce}

-- Two cuts of one list are equal, or one of them lies in the other's front.
pub record LiesIn {X : Type 0} (before : List X) (row : X) (front : List X) : Type 0 where
  pub between : List X
  pub cut : front ≡ before ++ row ∷ between

pub data Meets {X : Type 0} (before : List X) (row : X) (front : List X) (other : X) : Type 0 where
  same_place : before ≡ front → row ≡ other → Meets before row front other
  lies_first : LiesIn before row front → Meets before row front other
  lies_second : LiesIn front other before → Meets before row front other

meets_step : {X : Type 0} (x y : X) (before : List X) (row : X) (front : List X) (other : X) → x ≡ y
    → Meets before row front other → Meets (x ∷ before) row (y ∷ front) other
meets_step x y before row front other e (same_place p q) = same_place (cc) q
meets_step x y before row front other e (lies_first w) = lies_first (record { between = w.between; cut = rw (w.cut, e) refl })
meets_step x y before row front other e (lies_second w) = lies_second (record { between = w.between; cut = rw (w.cut, e) refl })

pub meets : {X : Type 0} (before : List X) (row : X) (after : List X) (front : List X) (other : X) (back : List X)
    → before ++ row ∷ after ≡ front ++ other ∷ back → Meets before row front other
meets [] row after [] other back e = same_place refl (cc)
meets [] row after (y ∷ front) other back e = let h : row ≡ y = cc in lies_first (record { between = front; cut = rw h refl })
meets (x ∷ before) row after [] other back e = let h : x ≡ other = cc in lies_second (record { between = before; cut = rw h refl })
meets (x ∷ before) row after (y ∷ front) other back e =
    let heads : x ≡ y = cc in
    let tails : before ++ row ∷ after ≡ front ++ other ∷ back = cc in
    meets_step x y before row front other heads (meets before row after front other back tails)

-- a format's good lines, row by row
pub record IsFormat {X L : Type 0} (Good : List (ℕ × X) → List L → Type 0) (next : List L → ℕ × X → Result L Kind) : Type 0 where
  pub nil : Good [] []
  pub push : (rows : List (ℕ × X)) (lines : List L) (row : ℕ × X) (line : L) → Good rows lines
      → next lines row ≡ Ok line → Good (rows ++ row ∷ []) (lines ++ line ∷ [])
  pub same : (rows : List (ℕ × X)) (lines others : List L) → Good rows lines → Good rows others → lines ≡ others
  pub none : (rows : List (ℕ × X)) → Good rows [] → rows ≡ []
  -- a row among good ones has no fault behind the lines of those before it
  pub next_ok : (before : List (ℕ × X)) (row : ℕ × X) (after : List (ℕ × X)) (lines : List L) (kind : Kind) (front : List L)
      → Good (before ++ row ∷ after) lines → Good before front → next front row ≡ Err kind → ⊥

-- two faults with the same parts are one
same_fault : (a b : FormatFault) → a.line ≡ b.line → a.kind ≡ b.kind → a ≡ b
same_fault a b line kind =
    let fault_of : ℕ → Kind → FormatFault = λ l k. record { line = l; kind = k } in
    ap (λ l. fault_of l a.kind) line ∙ ap (λ k. fault_of b.line k) kind

module _ {X L : Type 0} (Good : List (ℕ × X) → List L → Type 0) (next : List L → ℕ × X → Result L Kind) (format : IsFormat Good next) where
  -- the rows are good, or one of them is the first with a fault
  abbrev Told : List (ℕ × X) → Type 0
  Told rows = ((lines : List L) × Good rows lines) ⊎ ((fault : FormatFault) × IsFirstFault Good next rows fault)

  told_step : (done : List (ℕ × X)) (lines : List L) (row : ℕ × X) (rest : List (ℕ × X)) (r : Result L Kind) → next lines row ≡ r → Good done lines
      → ((line : L) → Good (done ++ row ∷ []) (lines ++ line ∷ []) → Told ((done ++ row ∷ []) ++ rest)) → Told (done ++ row ∷ rest)
  told_step done lines row rest (Ok line) is good more =
      rw (← append_assoc done (row ∷ []) rest) (more line (format.push done lines row line good is))
  told_step done lines row rest (Err kind) is good more =
      inr (
        record { line = row.0; kind = kind },
        record { before = done; row = row; after = rest; lines = lines; cut = refl; good = good; line = refl; kind = is },
      )

  told : (rows done : List (ℕ × X)) (lines : List L) → Good done lines → Told (done ++ rows)
  told [] done lines good = inl (lines, rw append-nil good)
  told (row ∷ rest) done lines good =
      told_step done lines row rest (next lines row) refl good (λ line more. told rest (done ++ row ∷ []) (lines ++ line ∷ []) more)

  met : (rows : List (ℕ × X)) (a b : FormatFault) (x : IsFirstFault Good next rows a) (y : IsFirstFault Good next rows b)
      → Meets x.before x.row y.before y.row → a ≡ b
  met rows a b x y (same_place before row) =
      let good : Good x.before y.lines = rw before y.good in
      let lines : x.lines ≡ y.lines = format.same x.before x.lines y.lines x.good good in
      let line : a.line ≡ b.line = x.line ∙ ap (λ row. row.0) row ∙ sym y.line in
      let read : next x.lines x.row ≡ Err b.kind = rw (lines, row) y.kind in
      let kinds : ◌≡◌ {A = Result L Kind} (Err a.kind) (Err b.kind) = sym x.kind ∙ read in
      let kind : a.kind ≡ b.kind = cc kinds in
      same_fault a b line kind
  met rows a b x y (lies_first w) = absurd (format.next_ok x.before x.row w.between y.lines a.kind x.lines (rw w.cut at y.good) x.good x.kind)
  met rows a b x y (lies_second w) = absurd (format.next_ok y.before y.row w.between x.lines b.kind y.lines (rw w.cut at x.good) y.good y.kind)

  cut_filled : (before : List (ℕ × X)) (row : ℕ × X) (after : List (ℕ × X)) → before ++ row ∷ after ≡ [] → ⊥
  cut_filled [] row after e = cc
  cut_filled (x ∷ before) row after e = cc

  fault_not_good : (rows : List (ℕ × X)) (fault : FormatFault) (lines : List L) → rows ≢ [] → Good rows lines
      → IsEmpty rows fault ⊎ IsFirstFault Good next rows fault → ⊥
  fault_not_good rows fault lines some good (inl empty) = some empty.none
  fault_not_good rows fault lines some good (inr x) = format.next_ok x.before x.row x.after lines fault.kind x.lines (rw x.cut at good) x.good x.kind

  one_fault : (rows : List (ℕ × X)) (a b : FormatFault) → IsEmpty rows a ⊎ IsFirstFault Good next rows a
      → IsEmpty rows b ⊎ IsFirstFault Good next rows b → a ≡ b
  one_fault rows a b (inl x) (inl y) = same_fault a b (x.line ∙ sym y.line) (x.kind ∙ sym y.kind)
  one_fault rows a b (inl x) (inr y) = absurd (cut_filled y.before y.row y.after (sym y.cut ∙ x.none))
  one_fault rows a b (inr x) (inl y) = absurd (cut_filled x.before x.row x.after (sym x.cut ∙ y.none))
  one_fault rows a b (inr x) (inr y) = met rows a b x y (meets x.before x.row x.after y.before y.row y.after (sym x.cut ∙ y.cut))

  only : (rows : List (ℕ × X)) (a b : Result (List L) FormatFault) → IsReadAs Good next rows a → IsReadAs Good next rows b → b ≡ a
  only rows (Ok lines) (Ok others) x y = ap (λ l. let r : Result (List L) FormatFault = Ok l in r) (format.same rows others lines y.1 x.1)
  only rows (Ok lines) (Err fault) x y = absurd (fault_not_good rows fault lines x.0 x.1 y)
  only rows (Err fault) (Ok lines) x y = absurd (fault_not_good rows fault lines y.0 y.1 x)
  only rows (Err fault) (Err other) x y = ap (λ f. let r : Result (List L) FormatFault = Err f in r) (one_fault rows other fault y x)

  some_reading : (rows : List (ℕ × X)) → (rows ≢ []) → Told rows → (r : Result (List L) FormatFault) × IsReadAs Good next rows r
  some_reading rows some (inl (lines, good)) = (Ok lines, (some, good))
  some_reading rows some (inr (fault, first)) = (Err fault, inr first)

  reading : (rows : List (ℕ × X)) → (r : Result (List L) FormatFault) × IsReadAs Good next rows r
  reading [] = (Err (record { line = 0; kind = Empty }), inl (record { none = refl; line = refl; kind = refl }))
  reading (row ∷ rows) = some_reading (row ∷ rows) (λ e. cc) (told (row ∷ rows) [] [] format.nil)

  pub one_reading : (rows : List (ℕ × X)) → ExactlyOne (IsReadAs Good next rows)
  one_reading rows = let r = reading rows in (r.0, r.1, λ other is. only rows r.0 other r.1 is)

module _ {R L : Type 0} (read : R → Result L Kind) where
  pub Stand-push : (rows : List R) (lines : List L) (row : R) (line : L) → Stand read rows lines
      → read row ≡ Ok line → Stand read (rows ++ row ∷ []) (lines ++ line ∷ [])
  Stand-push rows lines row line stand is = rw (map-append, map-append, is, stand) refl

  pub Stand-no_fault : (before : List R) (row : R) (after : List R) (lines : List L) (kind : Kind)
      → Stand read (before ++ row ∷ after) lines → read row ≡ Err kind → ⊥
  Stand-no_fault [] row after [] kind stand is = cc
  Stand-no_fault [] row after (line ∷ lines) kind stand is = cc
  Stand-no_fault (first ∷ before) row after [] kind stand is = cc
  Stand-no_fault (first ∷ before) row after (line ∷ lines) kind stand is = Stand-no_fault before row after lines kind (cc) is

  -- the lines of rows that are cut
  pub record CutLines (before : List R) (row : R) (lines : List L) : Type 0 where
    pub front : List L
    pub line : L
    pub back : List L
    pub cut : lines ≡ front ++ line ∷ back
    pub front_is : Stand read before front
    pub line_is : read row ≡ Ok line

  cut_lines-cons : (first : R) (before : List R) (row : R) (head : L) (lines : List L) → read first ≡ Ok head
      → CutLines before row lines → CutLines (first ∷ before) row (head ∷ lines)
  cut_lines-cons first before row head lines is w =
      record { front = head ∷ w.front; line = w.line; back = w.back; cut = rw w.cut refl; front_is = rw (is, w.front_is) refl; line_is = w.line_is }

  pub cut_lines : (before : List R) (row : R) (after : List R) (lines : List L) → Stand read (before ++ row ∷ after) lines → CutLines before row lines
  cut_lines [] row after [] stand = cc
  cut_lines [] row after (line ∷ lines) stand = let is : read row ≡ Ok line = cc stand in
      record { front = []; line = line; back = lines; cut = refl; front_is = refl; line_is = is }
  cut_lines (first ∷ before) row after [] stand = cc
  cut_lines (first ∷ before) row after (line ∷ lines) stand =
      let is : read first ≡ Ok line = cc stand in
      let more : Stand read (before ++ row ∷ after) lines = cc stand in
      cut_lines-cons first before row line lines is (cut_lines before row after lines more)

  pub Stand-same : (rows : List R) (lines others : List L) → Stand read rows lines → Stand read rows others → lines ≡ others
  Stand-same [] [] [] x y = refl
  Stand-same [] [] (o ∷ others) x y = cc
  Stand-same [] (l ∷ lines) others x y = cc
  Stand-same (row ∷ rows) [] others x y = cc
  Stand-same (row ∷ rows) (l ∷ lines) [] x y = cc
  Stand-same (row ∷ rows) (l ∷ lines) (o ∷ others) x y =
      let heads : ◌≡◌ {A = Result L Kind} (Ok l) (Ok o) = cc in
      let first : l ≡ o = cc heads in
      let rest : lines ≡ others = Stand-same rows lines others (cc) (cc) in
      cc (first, rest)

pub Stand-none : {R L : Type 0} (read : R → Result L Kind) (rows : List R) → Stand read rows [] → rows ≡ []
Stand-none read [] stand = refl
Stand-none read (row ∷ rows) stand = cc

-- a format whose rows are read one by one
pub Stand-IsFormat : {X L : Type 0} (read : ℕ × X → Result L Kind) → IsFormat (Stand read) (λ _. read)
Stand-IsFormat read = record {
  nil = refl;
  push = Stand-push read;
  same = Stand-same read;
  none = Stand-none read;
  next_ok = λ before row after lines kind _ good _ is. Stand-no_fault read before row after lines kind good is;
}

pub cut_nil : {L : Type 0} (before : List L) (row : L) (after : List L) → [] ≡ before ++ row ∷ after → ⊥
cut_nil [] row after e = cc
cut_nil (x ∷ before) row after e = cc

push_cut_step : {L : Type 0} (d x : L) (done : List L) (line : L) (before : List L) (again : L) → d ≡ x
    → ((done ≡ before) × (line ≡ again)) ⊎ LiesIn before again done → ((d ∷ done ≡ x ∷ before) × (line ≡ again)) ⊎ LiesIn (x ∷ before) again (d ∷ done)
push_cut_step d x done line before again heads (inl p) = let fronts = p.0 in let ends = p.1 in inl ((cc (heads, fronts)), ends)
push_cut_step d x done line before again heads (inr w) = inr (record { between = w.between; cut = rw (heads, w.cut) refl })

-- one more element, which stands in the front's end or behind it
pub push_cut : {L : Type 0} (done : List L) (line : L) (before : List L) (again : L) (after : List L)
    → done ++ line ∷ [] ≡ before ++ again ∷ after → ((done ≡ before) × (line ≡ again)) ⊎ LiesIn before again done
push_cut [] line [] again after e = inl (refl, (cc))
push_cut [] line (x ∷ before) again after e = absurd (cut_nil before again after (cc))
push_cut (d ∷ done) line [] again after e = let h : d ≡ again = cc in inr (record { between = done; cut = rw h refl })
push_cut (d ∷ done) line (x ∷ before) again after e =
    let heads : d ≡ x = cc in
    push_cut_step d x done line before again heads (push_cut done line before again after (cc))

module _ {L : Type 0} (same : L → L → Bool) (number : L → ℕ) where
  -- the lines are distinct, or one of them is the least that repeats an earlier one
  abbrev pub Found : List L → Type 0
  Found lines = IsDistinct same lines ⊎ ((fault : FormatFault) × IsTwice same number lines fault)

  pub distinct_nil : IsDistinct same []
  distinct_nil first again w = cut_nil w.before again w.after w.cut

  distinct_push_step : (done : List L) (line : L) (first again : L) (w : Repeats same (done ++ line ∷ []) first again)
      → find (same line) done ≡ None → IsDistinct same done → ((done ≡ w.before) × (line ≡ again)) ⊎ LiesIn w.before again done → ⊥
  distinct_push_step done line first again w none distinct (inl p) =
      let found : find (same line) done ≡ Some first = rw (p.0, p.1) w.earlier in
      none-some first (sym none ∙ found)
  distinct_push_step done line first again w none distinct (inr i) =
      distinct first again (record { before = w.before; after = i.between; cut = i.cut; earlier = w.earlier })

  pub distinct_push : (done : List L) (line : L) → find (same line) done ≡ None → IsDistinct same done → IsDistinct same (done ++ line ∷ [])
  distinct_push done line none distinct first again w =
      distinct_push_step done line first again w none distinct (push_cut done line w.before again w.after w.cut)

  found_step : (done : List L) (line : L) (rest : List L) (o : Option L) → find (same line) done ≡ o → IsDistinct same done
      → (IsDistinct same (done ++ line ∷ []) → Found ((done ++ line ∷ []) ++ rest)) → Found (done ++ line ∷ rest)
  found_step done line rest (Some first) is distinct more =
      inr (
        record { line = number line; kind = Twice (number first) },
        record { before = done; again = line; after = rest; first = first; cut = refl; earlier = is; distinct = distinct; line = refl; kind = refl },
      )
  found_step done line rest None is distinct more = rw (← append_assoc done (line ∷ []) rest) (more (distinct_push done line is distinct))

  pub found : (lines done : List L) → IsDistinct same done → Found (done ++ lines)
  found [] done distinct = inl (rw append-nil distinct)
  found (line ∷ rest) done distinct = found_step done line rest (find (same line) done) refl distinct (found rest (done ++ line ∷ []))

  twice_not_distinct : (lines : List L) (fault : FormatFault) → IsTwice same number lines fault → IsDistinct same lines → ⊥
  twice_not_distinct lines fault w distinct = distinct w.first w.again (record { before = w.before; after = w.after; cut = w.cut; earlier = w.earlier })

  repeats_in : (before : List L) (again : L) (front : List L) (first : L) → LiesIn before again front
      → find (same again) before ≡ Some first → IsDistinct same front → ⊥
  repeats_in before again front first w earlier distinct = distinct first again (record { before = before; after = w.between; cut = w.cut; earlier = earlier })

  twice_met : (lines : List L) (a b : FormatFault) (x : IsTwice same number lines a) (y : IsTwice same number lines b)
      → Meets x.before x.again y.before y.again → a ≡ b
  twice_met lines a b x y (same_place before again) =
      let found : find (same x.again) x.before ≡ Some y.first = rw (before, again) y.earlier in
      let firsts : x.first ≡ y.first = same_Some _ _ (sym x.earlier ∙ found) in
      same_fault a b (x.line ∙ ap number again ∙ sym y.line) (x.kind ∙ ap (λ first. Twice (number first)) firsts ∙ sym y.kind)
  twice_met lines a b x y (lies_first w) = absurd (repeats_in x.before x.again y.before x.first w x.earlier y.distinct)
  twice_met lines a b x y (lies_second w) = absurd (repeats_in y.before y.again x.before y.first w y.earlier x.distinct)

  one_twice : (lines : List L) (a b : FormatFault) → IsTwice same number lines a → IsTwice same number lines b → a ≡ b
  one_twice lines a b x y = twice_met lines a b x y (meets x.before x.again x.after y.before y.again y.after (sym x.cut ∙ y.cut))

module _ {L : Type 0} (Reads : Result (List L) FormatFault → Type 0) (same : L → L → Bool) (number : L → ℕ) (one : ExactlyOne Reads) where
  joined : (a b : Result (List L) FormatFault) → Reads a → Reads b → a ≡ b
  joined a b x y = one.2 a x ∙ sym (one.2 b y)

  same_lines : (a b : List L) → Reads (Ok a) → Reads (Ok b) → a ≡ b
  same_lines a b x y = let e : ◌≡◌ {A = Result (List L) FormatFault} (Ok a) (Ok b) = joined (Ok a) (Ok b) x y in cc e

  not_both : (a : List L) (b : FormatFault) → Reads (Ok a) → Reads (Err b) → ⊥
  not_both a b x y = let e : ◌≡◌ {A = Result (List L) FormatFault} (Ok a) (Err b) = joined (Ok a) (Err b) x y in cc e

  once_only : (a b : Result (List L) FormatFault) → IsReadOnce Reads same number a → IsReadOnce Reads same number b → b ≡ a
  once_only (Ok a) (Ok b) x y = joined (Ok b) (Ok a) y.0 x.0
  once_only (Ok a) (Err b) x (inl y) = absurd (not_both a b x.0 y)
  once_only (Ok a) (Err b) x (inr (lines, read, twice)) = absurd (twice_not_distinct same number lines b twice (rw (same_lines lines a read x.0) x.1))
  once_only (Err a) (Ok b) (inl x) y = absurd (not_both b a y.0 x)
  once_only (Err a) (Ok b) (inr (lines, read, twice)) y = absurd (twice_not_distinct same number lines a twice (rw (same_lines lines b read y.0) y.1))
  once_only (Err a) (Err b) (inl x) (inl y) = joined (Err b) (Err a) y x
  once_only (Err a) (Err b) (inl x) (inr (lines, read, twice)) = absurd (not_both lines a read x)
  once_only (Err a) (Err b) (inr (lines, read, twice)) (inl y) = absurd (not_both lines b read y)
  once_only (Err a) (Err b) (inr (lines, read, twice)) (inr (others, also, again)) =
      let e : others ≡ lines = same_lines others lines also read in
      ap (λ f. let r : Result (List L) FormatFault = Err f in r) (one_twice same number lines b a (rw (← e) again) twice)

  once_found : (lines : List L) → Reads (Ok lines) → Found same number lines → (r : Result (List L) FormatFault) × IsReadOnce Reads same number r
  once_found lines read (inl distinct) = (Ok lines, (read, distinct))
  once_found lines read (inr (fault, twice)) = (Err fault, inr (lines, read, twice))

  once_read : (r : Result (List L) FormatFault) → Reads r → (s : Result (List L) FormatFault) × IsReadOnce Reads same number s
  once_read (Ok lines) read = once_found lines read (found same number lines [] (distinct_nil same number))
  once_read (Err fault) read = (Err fault, inl read)

  -- where a text is read in one way, so it is where no line may repeat an earlier one
  pub read_once : ExactlyOne (IsReadOnce Reads same number)
  read_once = let r = once_read one.0 one.1 in (r.0, r.1, λ other is. once_only r.0 other r.1 is)
