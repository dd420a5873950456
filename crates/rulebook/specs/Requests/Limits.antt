-- The limits of a campaign, and that the code's numbers are these.
use Rattle.std.specs.Prelude.{◌≡◌, ℕ, ◌^◌}
use Rattle.rulebook.specs.declared.limits.TheConstants.{MAX_TOPICS, MAX_TITLE, MAX_DESC, MAX_NARR, MAX_DOCS, MAX_RUNS, MAX_LINES, MAX_DOCNOS, MAX_ENTRIES, NUMBER_BOUND, MAX_MOMENT, MAX_ENTRY_BYTES, MAX_DEPTH, MAX_TERM, MAX_HOLD}

-- the most topics, and the most that the rules name
abbrev pub max_topics : ℕ
max_topics = 250

-- the most bytes of a topic's title, of its description and of its narrative
abbrev pub max_title : ℕ
max_title = 1000

abbrev pub max_desc : ℕ
max_desc = 8192

abbrev pub max_narr : ℕ
max_narr = 8192

-- the most documents of a run on a topic
abbrev pub max_docs : ℕ
max_docs = 1000

-- the most runs that are ever submitted, and the most lines and different docnos that these have together
abbrev pub max_runs : ℕ
max_runs = 256

abbrev pub max_lines : ℕ
max_lines = 8000000

abbrev pub max_docnos : ℕ
max_docnos = 2000000

-- the most entries, the founding one included
abbrev pub max_entries : ℕ
max_entries = 4000000

-- the numbers of requests are below this
abbrev pub number_bound : ℕ
number_bound = 2 ^ 63

-- the latest moment of a request, in seconds
abbrev pub max_moment : ℕ
max_moment = 2 ^ 40

-- the most bytes of an entry
abbrev pub max_entry_bytes : ℕ
max_entry_bytes = 2 ^ 25

-- the greatest depth of the pools
abbrev pub max_depth : ℕ
max_depth = 1000

-- the longest term of a lease, in seconds
abbrev pub max_term : ℕ
max_term = 2 ^ 40

-- the most live leases that the rules give an assessor
abbrev pub max_hold : ℕ
max_hold = 50

-- the greatest top_grade that rules have
abbrev pub max_top_grade : ℕ
max_top_grade = 255

-- The numbers that the code looks at are those of the rules.
pub record LimitsAreTheRules : Type 0 where
  pub topics : MAX_TOPICS ≡ max_topics
  pub title : MAX_TITLE ≡ max_title
  pub desc : MAX_DESC ≡ max_desc
  pub narr : MAX_NARR ≡ max_narr
  pub docs : MAX_DOCS ≡ max_docs
  pub runs : MAX_RUNS ≡ max_runs
  pub lines : MAX_LINES ≡ max_lines
  pub docnos : MAX_DOCNOS ≡ max_docnos
  pub entries : MAX_ENTRIES ≡ max_entries
  pub number : NUMBER_BOUND ≡ number_bound
  pub moment : MAX_MOMENT ≡ max_moment
  pub entry_bytes : MAX_ENTRY_BYTES ≡ max_entry_bytes
  pub depth : MAX_DEPTH ≡ max_depth
  pub term : MAX_TERM ≡ max_term
  pub hold : MAX_HOLD ≡ max_hold
