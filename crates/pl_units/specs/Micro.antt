-- Thousandths of a millimetre.
use Rattle.std.specs.Prelude.{suc, ◌+◌, ◌/◌, ℤ, pos, negsuc, neg_ℤ}

-- nanometres as thousandths of a millimetre, halves away from zero
abbrev pub micro : ℤ → ℤ
micro (pos nm) = pos ((nm + 500) / 1000)
micro (negsuc nm) = neg_ℤ (pos ((suc nm + 500) / 1000))
