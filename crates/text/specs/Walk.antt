-- What the walk over the answers of a log is asked for and gives. The contract of `write_report` does not cite it. Assumes nothing.
use Rattle.std.specs.Prelude.{Option, Some, None, List, [], ◌∷◌, ◌++◌, ◌≡◌, ℕ, ◌+◌, length, drop}
use Rattle.answers.specs.Answers.{Role, opens, of_day, beside, role_of, bytes_of}
use Rattle.answers.specs.declared.Answer.{Answer}
use Rattle.text.specs.Report.{line_of, about_block, own}
use Rattle.totals.specs.Tally.{InMonthOrder}
use Rattle.text.specs.declared.answer_walk.Block.{Block}

-- the bytes from the index `from` up to n are those of the answers
pub record Holds (s : List ℕ) (from n : ℕ) (answers : List Answer) : Type 0 where
  pub size : from + length (bytes_of answers) ≡ n
  pub rest : List ℕ
  pub bytes : drop from s ≡ bytes_of answers ++ rest

-- all the bytes are those of the answers
abbrev pub HoldsAll : List ℕ → List Answer → Type 0
HoldsAll s answers = Holds s 0 (length s) answers

-- the months of the block that an answer opens, and of each block, are in date order
abbrev pub BlockOrdered : Role → List Answer → Type 0
BlockOrdered (opens code) rest = InMonthOrder 0 (own rest)
BlockOrdered (of_day year d verdict) rest = Unit {0}
BlockOrdered beside rest = Unit {0}

abbrev pub Ordered : List Answer → Type 0
Ordered [] = Unit {0}
Ordered (a ∷ rest) = BlockOrdered (role_of a) rest × Ordered rest

-- the header, and the most bytes that the lines of a log's answers can have (proofs/LongEnough.antt)
abbrev pub longest_report : ℕ
longest_report = 223457

-- ---- one answer after another

-- what a block has had up to an index: the answers `seen`
abbrev pub Stands : List ℕ → ℕ → Option Block → List Answer → Type 0
Stands s at None seen = Unit {0}
Stands s at (Some b) seen = Holds s b.from at seen × InMonthOrder 0 seen

-- up to the end
abbrev pub StandsAll : List ℕ → Option Block → List Answer → Type 0
StandsAll s block seen = Stands s (length s) block seen

-- By what an answer is to its block: the block that is open behind it, where its bytes end at the index `next`, and what that block has had.
abbrev pub open_after : Option Block → Role → ℕ → Option Block
open_after block (opens code) next = Some (record { code = code; from = next })
open_after block (of_day year d verdict) next = block
open_after block beside next = block

-- what is printed where a block ends, and of an answer in it
abbrev pub about_open : Option Block → List Answer → List ℕ
about_open None seen = []
about_open (Some b) seen = about_block b.code seen

abbrev pub line_in : Option Block → Answer → List ℕ
line_in None a = []
line_in (Some b) a = line_of b.code a

-- what an answer prints: where a station stands, the block before it has ended
abbrev pub printed : Option Block → List Answer → Role → Answer → List ℕ
printed block seen (opens code) a = about_open block seen
printed block seen (of_day year d verdict) a = line_in block a
printed block seen beside a = line_in block a
