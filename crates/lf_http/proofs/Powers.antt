-- Numbers of few digits.
use Rattle.std.proofs.Common.{◌<◌, ◌≤◌, ◌+◌, ◌*◌, ◌^◌, ℕ, arith}
use Rattle.std.proofs.Math.Nat.{pow-le-pow_right}
use Rattle.std.proofs.lemmas.Grind.{pow_more}

-- one more digit
pub digit_more : (value digit i : ℕ) → value < 10 ^ i → digit ≤ 9 → value * 10 + digit < 10 ^ (i + 1)
digit_more value digit i below small = omega (arith, pow_more 10 i)

-- a number of at most 17 digits has room for one more
pub digits_fit : (value i : ℕ) → i < 18 → value < 10 ^ i → value < 10 ^ 17
digits_fit value i few below =
    let most : 10 ^ i ≤ 10 ^ 17 = pow-le-pow_right {n = 10} (omega arith) {i = i} {j = 17} (omega arith) in
    omega arith
