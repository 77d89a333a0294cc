-- The next numbers of partitions, as they are looked up and as a table has them.
use Rattle.std.proofs.Common.{◌≡◌, ℕ, cond, [], ◌∷◌, refl, ap, nat_eq}
use Rattle.std.specs.declared.option.Option.{Option}
use Rattle.std.specs.declared.option.Option.TheVariants.{Some}
use Rattle.rmt_names.specs.Names.{rank}
use Rattle.rmt_model.specs.BlockNumbers.{next_number}
use Rattle.rmt_history.specs.Mutations.{number_among}
use Rattle.rmt_table_model.specs.Numbers.{Nexts, next_of, AreNexts}
use Rattle.rmt_table_model.proofs.NumberLemmas.{number-is, next-has}

-- a look-up among pairs is that of the next number
pub lookup-same : (next : Nexts) (p : Option ℕ) → number_among next p ≡ next_of next p
lookup-same [] p = refl
lookup-same (x ∷ xs) p = ap (λ (o : Option ℕ). cond (nat_eq (rank x.0) (rank p)) (Some x.1) o) (lookup-same xs p)

-- the next number of a partition that exists
pub number-where : (next : Nexts) (p : Option ℕ) (m : ℕ) → AreNexts next → next_of next p ≡ Some m → next_number next p ≡ m
number-where next p m a e = number-is next p m a (next-has next p m e)
