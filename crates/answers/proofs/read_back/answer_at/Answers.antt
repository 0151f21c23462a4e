-- `answers::read_back::answer_at` meets its contract. Assumes nothing.
use mathlib.Core.Path.{refl}
use native.Mathlib.Omega.{arith}
use Rattle.answers.proofs.ReadBack.{number_told, some_kind, room, is_station, is_crop, is_figure, is_estimate, is_refusal, some_refusal, refusal_is}
use Rattle.answers.proofs.read_back.answer_at.Goals as goal

pub unwrap-requires : goal.unwrap-requires
unwrap-requires c = some_kind _ c.try_from.ensures c.requires.0 c.requires.1

pub code_at-requires : goal.code_at-requires
code_at-requires c = omega (arith, room c.try_from.ensures c.in-Station.ensures c.requires.0 c.requires.1)

pub code_at-requires-in-Crop : goal.code_at-requires-in-Crop
code_at-requires-in-Crop c = omega (arith, room c.try_from.ensures c.in-Crop.ensures c.requires.0 c.requires.1)

pub four_at-requires : goal.four_at-requires
four_at-requires c = omega (arith, room c.try_from.ensures c.in-Crop.ensures c.requires.0 c.requires.1)

pub four_at-requires-in-Figure : goal.four_at-requires-in-Figure
four_at-requires-in-Figure c = omega (arith, room c.try_from.ensures c.in-Figure.ensures c.requires.0 c.requires.1)

pub day_at-requires : goal.day_at-requires
day_at-requires c = omega (arith, room c.try_from.ensures c.in-Figure.ensures c.requires.0 c.requires.1)

pub four_at-requires-in-Estimate : goal.four_at-requires-in-Estimate
four_at-requires-in-Estimate c = omega (arith, room c.try_from.ensures c.in-Estimate.ensures c.requires.0 c.requires.1)

pub day_at-requires-in-Estimate : goal.day_at-requires-in-Estimate
day_at-requires-in-Estimate c = omega (arith, room c.try_from.ensures c.in-Estimate.ensures c.requires.0 c.requires.1)

pub four_at-requires-in-Refusal : goal.four_at-requires-in-Refusal
four_at-requires-in-Refusal c = omega (arith, room c.try_from.ensures c.in-Refusal.ensures c.requires.0 c.requires.1)

pub day_at-requires-in-Refusal : goal.day_at-requires-in-Refusal
day_at-requires-in-Refusal c = omega (arith, room c.try_from.ensures c.in-Refusal.ensures c.requires.0 c.requires.1)

pub unwrap-why-requires : goal.unwrap-why-requires
unwrap-why-requires c =
    let k = number_told c.try_from.ensures c.in-Refusal.ensures in
    some_refusal k c.four_at-in-Refusal.ensures _ c.try_from-in-Refusal.ensures c.requires.0 c.requires.1

pub returns-in-Station : goal.returns-in-Station
returns-in-Station c = is_station (number_told c.try_from.ensures c.in-Station.ensures) c.code_at.ensures

pub returns-in-Crop : goal.returns-in-Crop
returns-in-Crop c = is_crop (number_told c.try_from.ensures c.in-Crop.ensures) c.code_at-in-Crop.ensures c.four_at.ensures

pub returns-in-Figure : goal.returns-in-Figure
returns-in-Figure c =
    let k = number_told c.try_from.ensures c.in-Figure.ensures in
    rw c.day_at.ensures (is_figure (omega (arith, k)) (omega (arith, k)) refl refl c.four_at-in-Figure.ensures k)

pub returns-in-Estimate : goal.returns-in-Estimate
returns-in-Estimate c =
    let k = number_told c.try_from.ensures c.in-Estimate.ensures in
    rw c.day_at-in-Estimate.ensures (is_estimate (omega (arith, k)) (omega (arith, k)) refl refl c.four_at-in-Estimate.ensures k)

pub returns-in-Refusal : goal.returns-in-Refusal
returns-in-Refusal c =
    let k = number_told c.try_from.ensures c.in-Refusal.ensures in
    rw c.day_at-in-Refusal.ensures
    (is_refusal (omega (arith, k)) (omega (arith, k)) refl refl c.four_at-in-Refusal.ensures (omega (arith, k)) (omega (arith, k)) (refusal_is c.try_from-in-Refusal.ensures c.unwrap-why.ensures))
