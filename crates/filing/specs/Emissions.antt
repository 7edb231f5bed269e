-- A year's emissions. The weights are the global warming potentials of the gases.
use Rattle.std.specs.Prelude.{ℕ, ◌+◌, ◌-◌, ◌*◌, ◌/◌}
use Rattle.filing.specs.declared.fields.HeadFields.{HeadFields}

-- kilograms of carbon dioxide equivalent, less what was captured and stored
abbrev pub total : HeadFields → ℕ
total h = h.co2 + 25 * h.ch4 + 298 * h.n2o + 22800 * h.sf6 - h.captured

-- whole tonnes, a half up
abbrev pub emissions : HeadFields → ℕ
emissions h = (total h + 500) / 1000
