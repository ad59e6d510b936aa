-- Bits of a number by shift and remainder. Assumes nothing.
use Prim.Native.Nat.{ℕ, ◌*◌, ◌/◌, ◌%◌, ◌^◌, ◌<◌, ◌≤◌}
use mathlib.Core.Path.{◌≡◌, ◌∙◌, ap, sym}
use native.Mathlib.Nat.{mod-eq_of_lt, one-mul, pow-le-pow_right, mod-le, div-le_self, div-eq_of_lt}
use native.Mathlib.Omega.{arith}
use lib.Pow.{pow_pos}

-- a shifted 1 is a power of two
pub shifted : (n : ℕ) → n ≤ 32 → 1 * 2 ^ n % 18446744073709551616 ≡ 2 ^ n
shifted n h =
    let le : 2 ^ n ≤ 2 ^ 32 = pow-le-pow_right (omega arith) h in
    mod-eq_of_lt (omega arith) ∙ one-mul (2 ^ n)

-- bits from bit 0 on
pub from_bit_0 : (w m : ℕ) → w % m ≡ w / 1 % m
from_bit_0 w m = let z : w / 1 ≡ w = omega arith in rw z

-- bits of a number are no more than the number
pub bits_most : (x low m : ℕ) → x / 2 ^ low % m ≤ x
bits_most x low m = omega (arith, mod-le (x / 2 ^ low) m, div-le_self x (2 ^ low))

-- past bit 31 a number below 2^32 has none
past : (x n : ℕ) → x < 4294967296 → 31 < n → x < 2 ^ n
past x n h l = let le : 2 ^ 32 ≤ 2 ^ n = pow-le-pow_right (omega arith) l in omega arith

pub none_past : (x low width : ℕ) → x < 4294967296 → 31 < low → 0 ≡ x / 2 ^ low % 2 ^ width
none_past x low width h l =
    let z : x / 2 ^ low ≡ 0 = div-eq_of_lt (past x low h l) in
    let m : 0 % 2 ^ width ≡ 0 = mod-eq_of_lt (pow_pos width) in
    sym (ap (λ (y : ℕ). y % 2 ^ width) z ∙ m)

pub all_kept : (x low width : ℕ) → x < 4294967296 → 31 < width → x / 2 ^ low ≡ x / 2 ^ low % 2 ^ width
all_kept x low width h l = let few : x / 2 ^ low < 4294967296 = omega (arith, div-le_self x (2 ^ low)) in sym (mod-eq_of_lt (past (x / 2 ^ low) width few l))
