-- Worked counts of puts that failed, of flushes that failed, and of reads.
use Rattle.std.specs.Prelude.{◌≡◌, ◌^◌, ◌-◌, refl}
use Rattle.pua_io.specs.Sinks.{next_count}

pub record CountRows : Type 0 where
  pub first : next_count 0 ≡ 1
  pub second : next_count 1 ≡ 2
  pub greatest : next_count (2 ^ 64 - 1) ≡ 2 ^ 64 - 1

pub count_rows : CountRows
count_rows = record { first = refl; second = refl; greatest = refl }
