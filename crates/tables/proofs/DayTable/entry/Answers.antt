-- `tables::DayTable::entry` meets its contract: the entry of each array, read in place. Assumes nothing.
use mathlib.Core.Path.{◌≡◌, sym, subst}
use Prim.Native.Nat.{ℕ}
use Rattle.tables.specs.Tables.{Entry, day_value, DayRule, day_range}
use Rattle.tables.specs.declared.DayTable.{DayTable}
use Rattle.tables.proofs.WholeTables.{albedos, a1_factors, aw_factors, bw_factors}
use Rattle.tables.proofs.DayTable.entry.Goals as goal

abbrev EntryOf : DayTable → ℕ → ℕ → Type 0
EntryOf t d = Entry (day_value t d) (DayRule t d) (day_range t)

of_table : {t u : DayTable} (d r : ℕ) → t ≡ u → EntryOf u d r → EntryOf t d r
of_table d r e h = subst (λ (t : DayTable). EntryOf t d r) (sym e) h

pub returns-in-Albedo : goal.returns-in-Albedo
returns-in-Albedo c = of_table _ _ c.in-Albedo.is (albedos.entries c.args.d c.requires.0 c.requires.1)

pub returns-in-A1 : goal.returns-in-A1
returns-in-A1 c = of_table _ _ c.in-A1.is (a1_factors.entries c.args.d c.requires.0 c.requires.1)

pub returns-in-Aw : goal.returns-in-Aw
returns-in-Aw c = of_table _ _ c.in-Aw.is (aw_factors.entries c.args.d c.requires.0 c.requires.1)

pub returns-in-Bw : goal.returns-in-Bw
returns-in-Bw c = of_table _ _ c.in-Bw.is (bw_factors.entries c.args.d c.requires.0 c.requires.1)
