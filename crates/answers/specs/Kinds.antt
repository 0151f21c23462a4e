-- The kinds of answers and their numbers. Assumes nothing.
use Rattle.std.specs.Prelude.{ℕ, ◌≡◌, ◌≢◌, Result, MatchResult}
use Rattle.answers.specs.declared.kind.Kind.{Kind}
use Rattle.answers.specs.declared.kind.Kind.TheVariants as kind
use Rattle.answers.specs.declared.kind.UnknownKind.{UnknownKind}

-- "kind 3, year, `d`, figure in four bytes; kind 4, year, `d`, refusal in four bytes"; "kind 5, code (4 bytes), for a station"; "a kind 7 answer (the
-- crop's capitals, figure in four bytes)" (02, W1); "kind 9 with the body of kind 3" (02, W4)
abbrev pub kind_number : Kind → ℕ
kind_number kind.Figure = 3
kind_number kind.Refusal = 4
kind_number kind.Station = 5
kind_number kind.Crop = 7
kind_number kind.Estimate = 9

-- the kind of a number, or, where no kind has it, that number
abbrev pub KindOf : ℕ → Result Kind UnknownKind → Type 0
KindOf n r = MatchResult r (λ k. kind_number k ≡ n) (λ e. (e.0 ≡ n) × ((k : Kind) → kind_number k ≢ n))
