-- The covers with `c`, as bits.
use Rattle.pua_jointly.proofs.Common.{◌≡◌, ◌<◌, ◌≤◌, ◌⊎◌, ◌∙◌, ◌==◌, ℕ, zero, suc, refl, sym, ap, inl, inr, arith, All, Only, Cover, has_c}
use Rattle.pua_jointly.proofs.Common.{false≢true}
use Rattle.std.specs.Int.{bit_at}
use Rattle.std.proofs.lemmas.Bool.{cases_lt}
use Rattle.std.proofs.lemmas.Nat.Bits.{bit_at_above}
use Rattle.pua_policy.specs.declared.answer.Cover.TheVariants.{Nothing}
use Rattle.pua_jointly.specs.Closing.{has_bit}
use Rattle.pua_jointly.specs.JointPlace.{cover_bit}
use Rattle.pua_jointly.specs.JointWords.{with_c, AreCovers}

by_letters : (perms : ℕ) → perms < 16 → (bit_at with_c (suc (suc perms)) == 1) ≡ has_c (Only perms)
by_letters zero low = refl
by_letters (suc zero) low = refl
by_letters (suc (suc zero)) low = refl
by_letters (suc (suc (suc zero))) low = refl
by_letters (suc (suc (suc (suc zero)))) low = refl
by_letters (suc (suc (suc (suc (suc zero))))) low = refl
by_letters (suc (suc (suc (suc (suc (suc zero)))))) low = refl
by_letters (suc (suc (suc (suc (suc (suc (suc zero))))))) low = refl
by_letters (suc (suc (suc (suc (suc (suc (suc (suc zero)))))))) low = refl
by_letters (suc (suc (suc (suc (suc (suc (suc (suc (suc zero))))))))) low = refl
by_letters (suc (suc (suc (suc (suc (suc (suc (suc (suc (suc zero)))))))))) low = refl
by_letters (suc (suc (suc (suc (suc (suc (suc (suc (suc (suc (suc zero))))))))))) low = refl
by_letters (suc (suc (suc (suc (suc (suc (suc (suc (suc (suc (suc (suc zero)))))))))))) low = refl
by_letters (suc (suc (suc (suc (suc (suc (suc (suc (suc (suc (suc (suc (suc zero))))))))))))) low = refl
by_letters (suc (suc (suc (suc (suc (suc (suc (suc (suc (suc (suc (suc (suc (suc zero)))))))))))))) low = refl
by_letters (suc (suc (suc (suc (suc (suc (suc (suc (suc (suc (suc (suc (suc (suc (suc zero))))))))))))))) low = refl
by_letters (suc (suc (suc (suc (suc (suc (suc (suc (suc (suc (suc (suc (suc (suc (suc (suc perms)))))))))))))))) low = absurd (omega (arith, low))

by_cover : (k : Cover) → cover_bit k < 18 → (bit_at with_c (cover_bit k) == 1) ≡ has_c k
by_cover All low = refl
by_cover Nothing low = refl
by_cover (Only perms) low = by_letters perms (omega (arith, low))

pub c_covers : AreCovers with_c has_c
c_covers = record { all = by_cover; only = none_above; small = omega arith }
  where
    none_above : (bit : ℕ) → has_bit with_c bit → bit < 18
    none_above bit known = by (cases_lt bit 18)
      where
        by : (bit < 18) ⊎ (18 ≤ bit) → bit < 18
        by (inl less) = less
        by (inr more) =
            absurd (false≢true (sym (ap (λ n. n == 1) (bit_at_above with_c 18 bit (omega arith) more)) ∙ known))
