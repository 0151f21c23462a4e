-- Lines of the sheet as expressions on i64 values: U and its powers V2 to V7, f + 160, D, M and g. Assumes nothing.
use Rattle.numbers.proofs.Reflection.{MachineExpression, lit, ◌+ᵐ◌, ◌-ᵐ◌, ◌*ᵐ◌, ◌÷↓ᵐ◌}

abbrev pub u : MachineExpression → MachineExpression
u f = lit 41 *ᵐ f +ᵐ lit 67_600

abbrev pub v2 : MachineExpression → MachineExpression
v2 f = u f *ᵐ u f ÷↓ᵐ lit 10

abbrev pub v4 : MachineExpression → MachineExpression
v4 f = v2 f *ᵐ v2 f ÷↓ᵐ lit 1_000_000_000

abbrev pub v6 : MachineExpression → MachineExpression
v6 f = v4 f *ᵐ v2 f ÷↓ᵐ lit 1_000_000_000

abbrev pub v7 : MachineExpression → MachineExpression
v7 f = v6 f *ᵐ u f ÷↓ᵐ lit 100_000

abbrev pub distance : MachineExpression → MachineExpression
distance f = f +ᵐ lit 160

abbrev pub slope : MachineExpression → MachineExpression
slope m = (v7 m ÷↓ᵐ lit 5) -ᵐ lit 116_000

-- how much warmer than freezing
abbrev pub warmer : MachineExpression → MachineExpression
warmer m = m -ᵐ lit 320

abbrev pub latent_heat : MachineExpression → MachineExpression
latent_heat m = lit 15_006_000 -ᵐ lit 787 *ᵐ warmer m

-- what g divides, and by what
abbrev pub above : MachineExpression → MachineExpression
above p = lit 603_000_000_000 *ᵐ p

abbrev pub below : MachineExpression → MachineExpression
below heat = lit 622 *ᵐ heat

abbrev pub psychrometric : MachineExpression → MachineExpression → MachineExpression
psychrometric p heat = above p ÷↓ᵐ below heat
