-- What is about a block is what is said of its months and its season as its answers are gone through in date order (`about_in_turn`): so a report's
-- lines can be worked out with no month but those of its answers (`lines_in_turn_lem`). Assumes nothing.
use mathlib.Core.Path.{◌≡◌, refl, sym, ap, ap₂}
use mathlib.Core.List.{List, [], ◌∷◌, ◌++◌}
use Prim.Native.Nat.{ℕ}
use Rattle.answers.specs.Answers.{Role, opens, of_day, beside, role_of}
use Rattle.answers.specs.declared.Answer.{Answer}
use Rattle.day.specs.declared.Code.{Code}
use Rattle.totals.specs.Tally.{begun, InMonthOrder}
use Rattle.totals.proofs.InTurn.{said, said_in_turn}
use Rattle.totals.specs.declared.tally.Tally.{Tally}
use Rattle.text.specs.Report.{answer_lines, month_text, season_text, about_block, own, block_lines, lines_of}
use Rattle.text.specs.Walk.{BlockOrdered, Ordered}

abbrev pub told : Code → Tally → List Answer → List ℕ
told code = said (month_text code) (season_text code)

pub about_in_turn : (code : Code) (answers : List Answer) → InMonthOrder 0 answers → told code begun answers ≡ about_block code answers
about_in_turn code = said_in_turn (month_text code) (season_text code) (λ year month. refl)

abbrev block_in_turn : Role → List Answer → List ℕ
block_in_turn (opens code) rest = answer_lines code (own rest) ++ told code begun (own rest)
block_in_turn (of_day year d verdict) rest = []
block_in_turn beside rest = []

abbrev pub lines_in_turn : List Answer → List ℕ
lines_in_turn [] = []
lines_in_turn (a ∷ rest) = block_in_turn (role_of a) rest ++ lines_in_turn rest

block_in_turn_lem : (r : Role) (rest : List Answer) → BlockOrdered r rest → block_lines r rest ≡ block_in_turn r rest
block_in_turn_lem (opens code) rest h = ap (λ (l : List ℕ). answer_lines code (own rest) ++ l) (sym (about_in_turn code (own rest) h))
block_in_turn_lem (of_day year d verdict) rest h = refl
block_in_turn_lem beside rest h = refl

pub lines_in_turn_lem : (answers : List Answer) → Ordered answers → lines_of answers ≡ lines_in_turn answers
lines_in_turn_lem [] h = refl
lines_in_turn_lem (a ∷ rest) h = ap₂ ◌++◌ (block_in_turn_lem (role_of a) rest h.0) (lines_in_turn_lem rest h.1)
