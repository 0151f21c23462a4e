-- `crops::Crop::share_on` meets its contract. Assumes nothing.
use Rattle.std.proofs.Common.{◌≡◌, ◌∙◌, refl}
use borrow.Author.Tests.{lt-leb, le-leb}
use Rattle.crops.specs.Crop.{above}
use Rattle.crops.proofs.Faultless.{faultless, length_most, i_below, r_below, share_in_range}
use Rattle.crops.proofs.Crop.share_on.Goals as goal
use Rattle.crops.proofs.Crop.share_on.Goals.{then-self-d, else-self-d}

pub between-above-requires : goal.between-above-requires
between-above-requires c =
    let sound = faultless c.args.self c.requires.not_bad in
    rw c.from-length.ensures (rw c.from-tenfold.ensures
    (length_most sound, i_below sound c.args.d c.requires.from_start c.if-self-d.false, r_below sound c.args.d))

pub returns : goal.returns
unfolding above
returns c =
    let is : c.if-self-d.above ≡ above c.args.self c.args.d =
    elim c.if-self-d.branch [
      | then-self-d w ↦ w.above-is ∙ simp (le-leb c.args.self.full c.args.d w.if-self-d.true, w.from.ensures, c.from-length.ensures)
      | else-self-d w ↦
          w.above-is
          ∙ simp (lt-leb c.args.self.full c.args.d w.if-self-d.false, w.from-tenfold.ensures, c.from-length.ensures, w.between-above.ensures)
    ] in
    rw c.from-length.ensures (rw is (record { value = refl; in_range = share_in_range (faultless c.args.self c.requires.not_bad) c.args.d }))
