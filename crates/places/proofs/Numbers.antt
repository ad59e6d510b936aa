-- A count times a size that is cut. Assumes nothing.
use Prim.Native.Nat.{ℕ, zero, suc, ◌*◌, ◌<◌, ◌≤◌}
use mathlib.Core.Path.{◌≡◌}
use native.Mathlib.Decide.{dec_lt}
use native.Mathlib.Nat.{mul-le-mul_right, one-mul, zero-mul}
use native.Mathlib.Omega.{arith}
use Rattle.places.specs.Rows.{cut}

-- a size may be cut before it is multiplied
pub cut_mul : (t w : ℕ) → cut (t * cut w) ≡ cut (t * w)
cut_mul zero w = rw (zero-mul w, zero-mul (cut w))
cut_mul (suc t) w = go (dec_lt 65536 w)
  where
    go : Dec (65536 < w) → cut (suc t * cut w) ≡ cut (suc t * w)
    go (no e) = let h : cut w ≡ w = omega arith in rw h
    go (yes e) =
        let h : cut w ≡ 65536 = omega arith in
        let o : 1 ≤ suc t = omega arith in
        rw h (omega (arith, mul-le-mul_right 65536 o, mul-le-mul_right w o, one-mul w, one-mul 65536))
