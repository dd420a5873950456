-- The lines of a message's head, and where the head ends.
use Rattle.std.proofs.Common.{◌≡◌, ◌+◌, ◌==◌, ◌&&◌, ℕ, Bool, true, false, not, List, [], ◌∷◌, ◌++◌, Option, Some, codes, length, nat_lt, refl, sym, ap, arith, append_assoc, length-append, ◌∙◌}
use Rattle.std.specs.Prelude.{if◌then◌else◌}
use Rattle.std.specs.List.{list_all}
use Rattle.std.specs.Option.{option_map}
use Rattle.std.proofs.lemmas.Bool.{and_parts}
use Rattle.http_wire.specs.Heads.{head_length, line_end_length}
use Rattle.drill.proofs.VisibleTexts.{is_inside}

-- the text is a head: it ends where the first empty line does, whatever follows
abbrev pub EndsHead : List ℕ → Type 0
EndsHead head = (tail : List ℕ) → head_length (head ++ tail) ≡ Some (length head)

-- a byte that doesn't end a line, or one that is followed by no empty line
passed-over : (ends : Bool) (line : ℕ) (found : Option ℕ) (n m : ℕ) → (ends && nat_lt 0 line) ≡ false → found ≡ Some n → n + 1 ≡ m
    → (if ends && nat_lt 0 line then Some (line + 1) else option_map (λ k. k + 1) found) ≡ Some m
passed-over ends line found n m none is sum = rw none (ap (option_map (λ k. k + 1)) is ∙ ap Some sum)

inside : (t more : Bool) → not t ≡ true → (t && more) ≡ false
inside true more is = cc
inside false more is = refl

line-length : (line head tail : List ℕ) → list_all is_inside line ≡ true → EndsHead head
    → head_length (line ++ (head ++ tail)) ≡ Some (length line + length head)
line-length [] head tail all ends = ends tail ∙ ap Some (omega arith)
line-length (b ∷ line) head tail all ends =
    let parts = and_parts (is_inside b) (list_all is_inside line) all in
    let rest = line ++ (head ++ tail) in
    passed-over (b == 10) (line_end_length rest) (head_length rest) (length line + length head) (length (b ∷ line) + length head)
    (inside (b == 10) (nat_lt 0 (line_end_length rest)) parts.0) (line-length line head tail parts.1 ends) (omega arith)

-- a part of a line before a head
pub more-line : (line head : List ℕ) → list_all is_inside line ≡ true → EndsHead head → EndsHead (line ++ head)
more-line line head all ends tail =
    ap head_length (append_assoc line head tail) ∙ line-length line head tail all ends ∙ ap Some (sym (length-append line head))

not_empty : (first second third : Bool) → first ≡ false → second ≡ false → (true && nat_lt 0 (if first then 1 else (if second && third then 2 else 0))) ≡ false
not_empty false false third other again = refl
not_empty true second third other again = cc
not_empty false true third other again = cc

-- the end of a line before another line
pub more-break : (b c : ℕ) (head : List ℕ) → (b == 10) ≡ false → (b == 13) ≡ false → EndsHead (b ∷ c ∷ head) → EndsHead (10 ∷ b ∷ c ∷ head)
more-break b c head other again ends tail =
    passed-over true (line_end_length (b ∷ c ∷ (head ++ tail))) (head_length (b ∷ c ∷ (head ++ tail))) (length (b ∷ c ∷ head)) (length (10 ∷ b ∷ c ∷ head))
    (not_empty (b == 10) (b == 13) (c == 10) other again) (ends tail) (omega arith)

-- the empty line at the end
last : EndsHead (codes "\n\r\n")
last tail = refl

-- a message's head, line by line: the path, the key, the number and the size of the body
abbrev pub lines : List ℕ → List ℕ → List ℕ → List ℕ → List ℕ
lines path key number size =
    codes "POST " ++ (path ++ (codes " HTTP/1.1\r\n" ++ (codes "X-Campaign-Key: " ++ (key ++ (codes "\r\n"
    ++ (codes "X-Request-Number: " ++ (number ++ (codes "\r\n" ++ (codes "Content-Length: " ++ (size ++ codes "\r\n\r\n"))))))))))

module _ (path key number size : List ℕ) (in_path : list_all is_inside path ≡ true) (in_key : list_all is_inside key ≡ true)
    (in_number : list_all is_inside number ≡ true)
    (in_size : list_all is_inside size ≡ true) where
  size-line : EndsHead (codes "Content-Length: " ++ (size ++ codes "\r\n\r\n"))
  size-line = more-line (codes "Content-Length: ") (size ++ codes "\r\n\r\n") refl (more-line size (codes "\r\n\r\n") in_size
      (more-line (codes "\r") (codes "\n\r\n") refl last))

  number-line : EndsHead (codes "X-Request-Number: " ++ (number ++ (codes "\r\n" ++ (codes "Content-Length: " ++ (size ++ codes "\r\n\r\n")))))
  number-line =
      let rest = codes "ntent-Length: " ++ (size ++ codes "\r\n\r\n") in
      more-line (codes "X-Request-Number: ") (number ++ (codes "\r\nCo" ++ rest)) refl
      (more-line number (codes "\r\nCo" ++ rest) in_number (more-line (codes "\r") (codes "\nCo" ++ rest) refl (more-break 67 111 rest refl refl size-line)))

  key-line : EndsHead (codes "X-Campaign-Key: " ++ (key ++ (codes "\r\n" ++ (codes "X-Request-Number: " ++
      (number ++ (codes "\r\n" ++ (codes "Content-Length: " ++ (size ++ codes "\r\n\r\n"))))))))
  key-line =
      let rest = codes "Request-Number: " ++ (number ++ (codes "\r\n" ++ (codes "Content-Length: " ++ (size ++ codes "\r\n\r\n")))) in
      more-line (codes "X-Campaign-Key: ") (key ++ (codes "\r\nX-" ++ rest)) refl
      (more-line key (codes "\r\nX-" ++ rest) in_key (more-line (codes "\r") (codes "\nX-" ++ rest) refl (more-break 88 45 rest refl refl number-line)))

  pub lines-end : EndsHead (lines path key number size)
  lines-end =
      let rest = codes "Campaign-Key: " ++ (key ++ (codes "\r\n" ++ (codes "X-Request-Number: " ++
      (number ++ (codes "\r\n" ++ (codes "Content-Length: " ++ (size ++ codes "\r\n\r\n"))))))) in
      more-line (codes "POST ") (path ++ (codes " HTTP/1.1\r\nX-" ++ rest)) refl
      (more-line path (codes " HTTP/1.1\r\nX-" ++ rest) in_path (more-line (codes " HTTP/1.1\r") (codes "\nX-" ++ rest) refl
      (more-break 88 45 rest refl refl key-line)))
