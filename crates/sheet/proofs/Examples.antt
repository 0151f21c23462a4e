-- Lines of the step sheet worked out by themselves, in one table with one statement over it, `lines`, where their way of rounding shows: of a line that is
-- "down" the fraction dropped is a half or more (but for N²/100, whose fraction is always 0.36), and of one that drops it toward zero there is a number
-- above 0 and one below. A constant, a sign or a way of rounding that is changed breaks it, even where it moves no figure. r, a search, is in the worked
-- days of `day`, and refusal 10 in its edges. Assumes nothing.
use mathlib.Core.Path.{◌≡◌, refl}
use mathlib.Core.List.{List, [], ◌∷◌, map}
use lib.IntN.{ℤ, pos, negsuc}
use Rattle.sheet.specs.StepSheet as sheet

-- a row of worked values: what a line or a table gives, and what is written
infix 2 ◌gives◌
pub data Row : Type 0 where
  ◌gives◌ : ℤ → ℤ → Row

abbrev pub given : Row → ℤ
given (x gives y) = x

abbrev pub written : Row → ℤ
written (x gives y) = y

-- -2.7 °F, and a clear day that no thousand divides: 155.82100459 cal/cm²/d
abbrev cold : ℤ
cold = negsuc 26

abbrev clear : ℤ
clear = pos 155_821_004_590

abbrev table : List Row
table =
    -- U, V2, V4, V8, V6, V7; e; D and M
    (sheet.U cold gives pos 66_493)
    ∷ (sheet.V2 cold gives pos 442_131_904)
    ∷ (sheet.V4 cold gives pos 195_480_620)
    ∷ (sheet.V8 cold gives pos 38_212_672)
    ∷ (sheet.V6 cold gives pos 86_428_218)
    ∷ (sheet.V7 cold gives pos 57_468_714)
    ∷ (sheet.e cold gives pos 133_003_758)
    ∷ (sheet.D cold gives pos 11_377_742)
    ∷ (sheet.M cold gives pos 15_279_089)
    -- g, w1 and w2
    ∷ (sheet.g (pos 954_675) (pos 15_006_000) gives pos 61_676_189)
    ∷ (sheet.w1 (pos 162_885_166) (pos 62_997_774) gives pos 721_104_329)
    ∷ (sheet.w2 (pos 162_885_166) (pos 62_997_774) gives pos 278_895_671)
    -- Q: the sum, and the minimum where the sum is below it; ρ and K, of both pairs
    ∷ (sheet.clear_sum (pos 1) (pos 2) (pos 3) (pos 4) (negsuc 4) (pos 10) gives pos 1_053_950_000)
    ∷ (sheet.Q (pos 50) (pos 49_999_999_999) gives pos 50_000_000_000)
    ∷ (sheet.Q (pos 50) (pos 50_000_000_001) gives pos 50_000_000_001)
    ∷ (sheet.ρ (pos 1_229) clear gives pos 788_725_504)
    ∷ (sheet.K (pos 1_229) clear gives pos 818_104_917)
    ∷ (sheet.ρ (pos 94) clear gives pos 60_325_628)
    ∷ (sheet.K (pos 94) clear gives pos 1_351_163)
    ∷ (sheet.K (pos 0) clear gives negsuc 59_999_999)
    -- N; its square over 100, squared; B
    ∷ (sheet.N cold gives pos 228_494)
    ∷ (sheet.fourth_power cold gives pos 272_583_272_560_206_400)
    ∷ (sheet.B (pos 749) (pos 433) gives pos 340_206_175)
    -- the emittance, below 0; Rb, of an emittance below 0, of a K below 0, and of neither; S and Rn
    ∷ (sheet.emittance (pos 260_000_000) (pos 399_999_997) gives negsuc 295_999_994)
    ∷ (sheet.Rb (negsuc 319_124_428) (pos 350_045_955) (pos 1_195_502_252) gives negsuc 133_547_421)
    ∷ (sheet.Rb (pos 304_527_799) (pos 238_618_057) (negsuc 19_312_522) gives negsuc 1_403_359)
    ∷ (sheet.Rb (pos 134_010_566) (pos 270_996_271) (pos 1_001_905_740) gives pos 36_385_572)
    ∷ (sheet.S (pos 1_000) gives pos 41_868_000)
    ∷ (sheet.Rn (pos 258_112_759) (pos 7_337) (pos 73_958_191) gives pos 153_938_823)
    -- soil heat: of none, of one warmer and of one colder, of two and of three; H
    ∷ (sheet.soil_heat (pos 500) (pos 0) (pos 0) gives pos 0)
    ∷ (sheet.soil_heat (pos 500) (pos 1) (pos 502) gives negsuc 418_887)
    ∷ (sheet.soil_heat (pos 500) (pos 1) (pos 498) gives pos 418_888)
    ∷ (sheet.soil_heat (pos 720) (pos 2) (pos 1_411) gives pos 3_036_944)
    ∷ (sheet.soil_heat (pos 720) (pos 3) (pos 1_915) gives pos 17_104_629)
    ∷ (sheet.soil_heat (pos 400) (pos 3) (pos 1_915) gives negsuc 49_917_591)
    ∷ (sheet.H (pos 100) (negsuc 49) gives pos 150)
    -- the wind over a limit and up to it; Wf
    ∷ (sheet.counted_wind (pos 1_500) (pos 1_501) gives pos 1_500)
    ∷ (sheet.counted_wind (pos 1_500) (pos 1_499) gives pos 1_499)
    ∷ (sheet.Wf (pos 862_742_284) (pos 7_695_652) (pos 440) gives pos 1_407_665_245)
    -- V, above 0 and below, and T of both
    ∷ (sheet.«V» (pos 4_811_111_111) (pos 1_477_168_258) (pos 1_229_188_323) gives pos 1_914_951_361)
    ∷ (sheet.«V» (pos 611_728_285) (pos 511_728_284) (pos 1_229_188_323) gives negsuc 667_460_038)
    ∷ (sheet.T (pos 6_254_587_997) (pos 1_391_614_558) gives pos 559_665_624)
    ∷ (sheet.T (negsuc 995_429_363) (pos 3_202_803_049) gives negsuc 204_998_937)
    -- A, above 0 and below; the figure: of an A below 0, and on both sides of a half
    ∷ (sheet.A (pos 755_871_079) (pos 244_128_921) (pos 489_366_151) (negsuc 5_027_379) gives pos 368_670_391)
    ∷ (sheet.A (pos 465_028_764) (pos 534_971_236) (negsuc 396_005_247) (pos 8_291_998) gives negsuc 179_717_849)
    ∷ (sheet.Figure (negsuc 93_749) (pos 14_763_750) gives pos 0)
    ∷ (sheet.Figure (pos 31_249) (pos 14_763_750) gives pos 0)
    ∷ (sheet.Figure (pos 31_250) (pos 14_763_750) gives pos 1)
    ∷ (sheet.Figure (pos 93_749) (pos 14_763_750) gives pos 1)
    ∷ (sheet.Figure (pos 93_750) (pos 14_763_750) gives pos 2)
    ∷ []

lines : map given table ≡ map written table
unfolding sheet.U sheet.V2 sheet.V4 sheet.V6 sheet.V7 sheet.V8 sheet.e sheet.D sheet.M sheet.g sheet.w1 sheet.w2 sheet.clear_sum sheet.Q sheet.ρ sheet.K sheet.N sheet.fourth_power sheet.B sheet.emittance sheet.Rb sheet.S sheet.Rn sheet.soil_heat sheet.H sheet.counted_wind sheet.Wf sheet.«V» sheet.T sheet.A sheet.Figure
lines = refl
