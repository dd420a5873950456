-- The texts of the answers.
use Rattle.std.specs.Prelude.{ℕ, ◌==◌, Bool, List, [], ◌∷◌, ◌++◌, length, codes, decimal, if◌then◌else◌}
use Rattle.std.specs.List.{concat, list_any}

-- a status that has a reason
abbrev pub is_status : ℕ → Bool
is_status status = list_any (λ known. known == status)
    (200 ∷ 201 ∷ 400 ∷ 401 ∷ 403 ∷ 404 ∷ 405 ∷ 409 ∷ 411 ∷ 413 ∷ 429 ∷ 431 ∷ 501 ∷ 503 ∷ 507 ∷ [])

-- the reason of a status that has one
abbrev pub reason_of : ℕ → List ℕ
reason_of status =
    if status == 200 then codes "OK"
    else (if status == 201 then codes "Created"
    else (if status == 400 then codes "Bad Request"
    else (if status == 401 then codes "Unauthorized"
    else (if status == 403 then codes "Forbidden"
    else (if status == 404 then codes "Not Found"
    else (if status == 405 then codes "Method Not Allowed"
    else (if status == 409 then codes "Conflict"
    else (if status == 411 then codes "Length Required"
    else (if status == 413 then codes "Content Too Large"
    else (if status == 429 then codes "Too Many Requests"
    else (if status == 431 then codes "Request Header Fields Too Large"
    else (if status == 501 then codes "Not Implemented"
    else (if status == 503 then codes "Service Unavailable"
    else codes "Insufficient Storage")))))))))))))

abbrev pub type_of : Bool → List ℕ
type_of json = if json then codes "application/json" else codes "text/plain"

abbrev pub closing : Bool → List ℕ
closing close = if close then codes "Connection: close\r\n" else []

-- the lines of an answer before a body of this size; the last is empty
abbrev pub head_text : ℕ → Bool → Bool → ℕ → List ℕ
head_text status json close size = concat
    (codes "HTTP/1.1 " ∷ decimal status ∷ codes " " ∷ reason_of status
    ∷ codes "\r\nContent-Type: " ∷ type_of json
    ∷ codes "\r\nContent-Length: " ∷ decimal size
    ∷ codes "\r\n" ∷ closing close ∷ codes "\r\n" ∷ [])

abbrev pub answer_text : ℕ → Bool → Bool → List ℕ → List ℕ
answer_text status json close body = head_text status json close (length body) ++ body
