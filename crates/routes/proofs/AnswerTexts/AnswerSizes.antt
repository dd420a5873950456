-- How long the answers are that take no memory.
use Rattle.std.proofs.Common.{ℕ, ◌+◌, ◌<◌, ◌≤◌, ◌^◌, ◌++◌, ◌∷◌, ◌==◌, List, [], Bool, true, false, length, arith, lit<, lit≤, length-append}
use Rattle.std.specs.Prelude.{IsTrue, nat_le, ◌||◌, decimal, codes, if◌then◌else◌}
use Rattle.std.specs.List.{list_all}
use Rattle.std.proofs.lemmas.Bool.{cond_both, and_parts, leb-true}
use Rattle.std.proofs.lemmas.Fmt.{length-decimal-le}
use Rattle.http_wire.specs.Answers.{reason_of, head_text}
use Rattle.trec_formats.specs.declared.faults.Kind.{Kind}
use Rattle.trec_formats.specs.declared.faults.Kind.TheVariants as kind
use Rattle.trec_formats.specs.FaultNames.{cause_name}
use Rattle.trec_formats.specs.Names.{is_name, is_docno, is_between}
use Rattle.decimal_rank.specs.declared.decimals.DecimalFault.{DecimalFault}
use Rattle.decimal_rank.specs.declared.decimals.DecimalFault.TheVariants as cause
use Rattle.rulebook.specs.declared.rules.Phase.{Phase}
use Rattle.rulebook.specs.declared.rules.Phase.TheVariants as phase
use Rattle.rulebook.specs.declared.reply.Quantity.{Quantity}
use Rattle.rulebook.specs.declared.reply.Quantity.TheVariants as quantity
use Rattle.rulebook.specs.declared.reply.Reply.TheVariants as reply
use Rattle.rulebook.specs.declared.reply.Refusal.{Refusal}
use Rattle.rulebook.specs.declared.reply.Refusal.TheVariants as refusal
use Rattle.rulebook.specs.Requests.Limits.{max_title}
use Rattle.rulebook.specs.Spelling.{is_printable}
use Rattle.routes.specs.declared.answers.Answered.{Answered}
use Rattle.routes.specs.Answers.{body_of, format_members, is_json, kind_members, phase_name, quantity_name, refusal_members, reply_body, status_of, text_of}
use Rattle.routes.specs.Bytes.{backslash, quote}
use Rattle.routes.specs.Json.Objects.{escaped, object}
use Rattle.routes.proofs.Requests.NameSizes.{docno_short, name_short}

pub decimal_short : (n : ℕ) → n < 2 ^ 64 → length (decimal n) ≤ 20
decimal_short n small = length-decimal-le 20 n (lit< tt) (omega (arith, small)) small

escaped_short : (text : List ℕ) → length (escaped text) ≤ length text + length text
escaped_short [] = omega arith
escaped_short (b ∷ text) =
    cond_both (b == quote || b == backslash) (backslash ∷ b ∷ []) (b ∷ [])
    (λ (front : List ℕ). length (front ++ escaped text) ≤ length (b ∷ text) + length (b ∷ text))
    (λ special. omega (arith, escaped_short text)) (λ plain. omega (arith, escaped_short text))

-- Bodies

pub topics_few : (topics : ℕ) → topics < 2 ^ 32 → length (reply_body (reply.Topics topics)) ≤ 3000
topics_few topics small = simp length-append (omega (arith, decimal_short topics (omega (arith, small))))

pub submitted_few : (run : List ℕ) (topics lines : ℕ) → topics < 2 ^ 32 → lines < 2 ^ 32 → IsTrue (is_name run)
    → length (reply_body (reply.Submitted run topics lines)) ≤ 3000
submitted_few run topics lines few_topics few_lines name =
    simp length-append (omega (arith, name_short run name, decimal_short topics (omega (arith, few_topics)), decimal_short lines (omega (arith, few_lines))))

title_short : (title : List ℕ) → IsTrue (is_printable max_title title) → length title ≤ max_title
title_short title is = leb-true (length title) max_title (and_parts (nat_le (length title) max_title) (list_all (is_between 32 126) title) is).0

pub leased_few : (lease : ℕ) (topic doc : List ℕ) (until : ℕ) (title : List ℕ) → lease < 2 ^ 32 → until < 2 ^ 64 → IsTrue (is_name topic)
    → IsTrue (is_docno doc) → IsTrue (is_printable max_title title) → length (reply_body (reply.Leased lease topic doc until title)) ≤ 3000
leased_few lease topic doc until title small latest name docno printable =
    simp length-append (omega (
      arith,
      name_short topic name,
      docno_short doc docno,
      title_short title printable,
      escaped_short doc,
      escaped_short title,
      decimal_short lease (omega (arith, small)),
      decimal_short until latest,
    ))

pub graded_few : (topic doc : List ℕ) (grade : ℕ) → grade < 2 ^ 8 → IsTrue (is_name topic) → IsTrue (is_docno doc)
    → length (reply_body (reply.Graded topic doc grade)) ≤ 3000
graded_few topic doc grade small name docno =
    simp length-append (omega (arith, name_short topic name, docno_short doc docno, escaped_short doc, decimal_short grade (omega (arith, small))))

phase_short : (p : Phase) → length (phase_name p) ≤ 20
phase_short phase.Collecting = lit≤ tt
phase_short phase.Judging = lit≤ tt
phase_short phase.Published = lit≤ tt

quantity_short : (q : Quantity) → length (quantity_name q) ≤ 20
quantity_short quantity.Topics = lit≤ tt
quantity_short quantity.Runs = lit≤ tt
quantity_short quantity.Lines = lit≤ tt
quantity_short quantity.Docnos = lit≤ tt
quantity_short quantity.Entries = lit≤ tt

-- the number that a refusal tells, or 0
abbrev pub number_in : Refusal → ℕ
number_in refusal.UnknownTopic = 0
number_in refusal.UnknownRun = 0
number_in refusal.UnknownLease = 0
number_in refusal.NotYours = 0
number_in (refusal.WrongPhase p) = 0
number_in refusal.TagTaken = 0
number_in refusal.TopicsFixed = 0
number_in refusal.NothingLeft = 0
number_in (refusal.TooMany live) = live
number_in (refusal.Expired until) = until
number_in refusal.Ended = 0
number_in refusal.GradeRange = 0
number_in refusal.NotLabelled = 0
number_in refusal.Withdrawn = 0
number_in (refusal.Reused entry) = entry
number_in (refusal.Limit which) = 0
number_in refusal.UnknownRelease = 0
number_in (refusal.LineTopic line) = line

pub refusal_few : (r : Refusal) → number_in r < 2 ^ 64 → length (object (refusal_members r)) ≤ 3000
refusal_few refusal.UnknownTopic small = lit≤ tt
refusal_few refusal.UnknownRun small = lit≤ tt
refusal_few refusal.UnknownLease small = lit≤ tt
refusal_few refusal.NotYours small = lit≤ tt
refusal_few (refusal.WrongPhase p) small = simp length-append (omega (arith, phase_short p))
refusal_few refusal.TagTaken small = lit≤ tt
refusal_few refusal.TopicsFixed small = lit≤ tt
refusal_few refusal.NothingLeft small = lit≤ tt
refusal_few (refusal.TooMany live) small = simp length-append (omega (arith, decimal_short live small))
refusal_few (refusal.Expired until) small = simp length-append (omega (arith, decimal_short until small))
refusal_few refusal.Ended small = lit≤ tt
refusal_few refusal.GradeRange small = lit≤ tt
refusal_few refusal.NotLabelled small = lit≤ tt
refusal_few refusal.Withdrawn small = lit≤ tt
refusal_few (refusal.Reused entry) small = simp length-append (omega (arith, decimal_short entry small))
refusal_few (refusal.Limit which) small = simp length-append (omega (arith, quantity_short which))
refusal_few refusal.UnknownRelease small = lit≤ tt
refusal_few (refusal.LineTopic line) small = simp length-append (omega (arith, decimal_short line small))

cause_short : (c : DecimalFault) → length (cause_name c) ≤ 20
cause_short cause.Shape = lit≤ tt
cause_short cause.Digits = lit≤ tt
cause_short cause.Exponent = lit≤ tt

-- the number that a kind tells, or 0
abbrev pub number_at : Kind → ℕ
number_at kind.Fields = 0
number_at kind.Topic = 0
number_at kind.Docno = 0
number_at (kind.Score c) = 0
number_at kind.Grade = 0
number_at kind.Empty = 0
number_at kind.TooLong = 0
number_at kind.Tag = 0
number_at (kind.Twice first) = first

pub kind_short : (k : Kind) → number_at k < 2 ^ 64 → length (object (kind_members k)) ≤ 60
kind_short kind.Fields small = lit≤ tt
kind_short kind.Topic small = lit≤ tt
kind_short kind.Docno small = lit≤ tt
kind_short (kind.Score c) small = simp length-append (omega (arith, cause_short c))
kind_short kind.Grade small = lit≤ tt
kind_short kind.Empty small = lit≤ tt
kind_short kind.TooLong small = lit≤ tt
kind_short kind.Tag small = lit≤ tt
kind_short (kind.Twice first) small = simp length-append (omega (arith, decimal_short first small))

first_short : (first : ℕ) → length (object (kind_members (kind.Twice first))) ≤ 60 → length (decimal first) ≤ 60
first_short first short = omega (arith, length-append (decimal first) (codes "}\n"), short)

pub format_few : (line : ℕ) (k : Kind) → line < 2 ^ 32 → length (object (kind_members k)) ≤ 60
    → length (object (format_members (record { line = line; kind = k }))) ≤ 3000
format_few line kind.Fields small short = simp length-append (omega (arith, decimal_short line (omega (arith, small))))
format_few line kind.Topic small short = simp length-append (omega (arith, decimal_short line (omega (arith, small))))
format_few line kind.Docno small short = simp length-append (omega (arith, decimal_short line (omega (arith, small))))
format_few line (kind.Score c) small short =
    simp length-append (omega (arith, cause_short c, decimal_short line (omega (arith, small))))
format_few line kind.Grade small short = simp length-append (omega (arith, decimal_short line (omega (arith, small))))
format_few line kind.Empty small short = simp length-append (omega (arith, decimal_short line (omega (arith, small))))
format_few line kind.TooLong small short = simp length-append (omega (arith, decimal_short line (omega (arith, small))))
format_few line kind.Tag small short = simp length-append (omega (arith, decimal_short line (omega (arith, small))))
format_few line (kind.Twice first) small short =
    simp length-append (omega (arith, first_short first short, decimal_short line (omega (arith, small))))

-- Heads

short_of_two : (test : Bool) (a b : List ℕ) → length a ≤ 40 → length b ≤ 40 → length (if test then a else b) ≤ 40
short_of_two true a b first second = first
short_of_two false a b first second = second

reason_short : (status : ℕ) → length (reason_of status) ≤ 40
reason_short status =
    short_of_two (status == 200) _ _ (lit≤ tt)
    (short_of_two (status == 201) _ _ (lit≤ tt) (short_of_two (status == 400) _ _ (lit≤ tt) (short_of_two (status == 401) _ _ (lit≤ tt)
    (short_of_two (status == 403) _ _ (lit≤ tt)
    (short_of_two (status == 404) _ _ (lit≤ tt) (short_of_two (status == 405) _ _ (lit≤ tt) (short_of_two (status == 409) _ _ (lit≤ tt)
    (short_of_two (status == 411) _ _ (lit≤ tt)
    (short_of_two (status == 413) _ _ (lit≤ tt) (short_of_two (status == 429) _ _ (lit≤ tt) (short_of_two (status == 431) _ _ (lit≤ tt)
    (short_of_two (status == 501) _ _ (lit≤ tt) (short_of_two (status == 503) _ _ (lit≤ tt) (lit≤ tt))))))))))))))

pub head_short : (status : ℕ) (json close : Bool) (size : ℕ) → status < 2 ^ 64 → size < 2 ^ 64 → length (head_text status json close size) ≤ 300
head_short status json close size known small =
    simp length-append (omega (
      arith,
      decimal_short status known,
      decimal_short size small,
      reason_short status,
      short_of_two json (codes "application/json") (codes "text/plain") (lit≤ tt) (lit≤ tt),
      short_of_two close (codes "Connection: close\r\n") [] (lit≤ tt) (lit≤ tt),
    ))

pub text_few : (a : Answered) (close : Bool) → status_of a < 2 ^ 16 → length (body_of a) ≤ 3000 → length (text_of a close) ≤ 4096
unfolding text_of
text_few a close known body =
    omega (
      arith,
      length-append (head_text (status_of a) (is_json a) close (length (body_of a))) (body_of a),
      head_short (status_of a) (is_json a) close (length (body_of a)) (omega (arith, known)) (omega (arith, body)),
      body,
    )
