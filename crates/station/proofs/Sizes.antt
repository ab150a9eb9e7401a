-- A sheet of values takes less memory than any working slice may.
use Rattle.std.proofs.Common.{ℕ, zero, ◌+◌, ◌-◌, ◌*◌, ◌%◌, ◌<◌, ◌≤◌, max, sym, subst, mul-le-mul_right, mod-lt, arith}
use mir.Syntax.{Width, Ty}
use mir.Val.{bytes}
use prog.Memory.{align, size, up}
use prog.Align.{align-bytes, align_pos, align_w}

bytes_small : (w : Width) → bytes w ≤ 16
bytes_small w = grind arith

align_small : (τ : Ty) → align τ ≤ 16
align_small τ = subst (λ n. n ≤ 16) (sym (align-bytes τ)) (bytes_small (align_w τ))

-- a place is moved up by less than 16 bytes
up_small : (k e : ℕ) → zero < k → k ≤ 16 → up k e ≤ e + 16
up_small k e h small = let less : (k - e % k) % k < k = mod-lt (k - e % k) h in omega arith

-- the bytes of 64 places and of how many are filled, for items of n bytes and alignment k, where r moves a place up
abbrev places_size : (ℕ → ℕ → ℕ) → ℕ → ℕ → ℕ
places_size r k n = r (max k 8) (r 8 (r k 0 + 64 * n) + 8)

-- the bytes of a sheet whose values have s bytes and alignment a
abbrev sheet_size : (ℕ → ℕ → ℕ) → ℕ → ℕ → ℕ
sheet_size r a s =
    r (max (max (max 1 (max a 1)) 8) (max (max a 8) 8)) (r 8 (r 1 (r (max a 8) (r (max (max 1 (max a 1)) 8) 0 + places_size r (max 1 (max a 1)) (r (max 1 (max a 1)) (r a 1 + s))) + places_size r a s) + 16) + 6224)

sheet_small : (r : ℕ → ℕ → ℕ) → ((k e : ℕ) → zero < k → k ≤ 16 → r k e ≤ e + 16) → (a s : ℕ) → zero < a → a ≤ 16 → s * 320 < 9223372036854775808 → sheet_size r a s < 9223372036854775808
sheet_small r up a s pos small fits = omega (arith, up)

pub sheet_fits : (τ : Ty) (n : ℕ) → 320 ≤ n → n * size τ < 9223372036854775808 → sheet_size up (align τ) (size τ) < 9223372036854775808
sheet_fits τ n long fits =
    let few : 320 * size τ ≤ n * size τ = mul-le-mul_right (size τ) long in
    sheet_small up up_small (align τ) (size τ) (align_pos τ) (align_small τ) (omega arith)
