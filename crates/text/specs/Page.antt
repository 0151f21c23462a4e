-- What the places for lines have in common. Assumes nothing.
use Rattle.std.specs.Prelude.{List, [], ◌++◌, ℕ}

-- no text leaves a page as it is, and one text behind another is both together; a page with room for both has room for the first, and then for the other
pub record PageLaws {P : Type 0} (Room : P → List ℕ → Type 0) (Laid : P → List ℕ → P → Type 0) : Type 0 where
  pub none : (p : P) → Room p [] → Laid p [] p
  pub then : (p q r : P) (xs ys : List ℕ) → Laid p xs q → Laid q ys r → Laid p (xs ++ ys) r
  pub front : (p : P) (xs ys : List ℕ) → Room p (xs ++ ys) → Room p xs
  pub behind : (p q : P) (xs ys : List ℕ) → Room p (xs ++ ys) → Laid p xs q → Room q ys
