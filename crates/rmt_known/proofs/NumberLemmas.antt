-- When numbers of partitions are the same, and when a log is too short.
use Rattle.std.proofs.Common.{◌≡◌, ℕ, ◌≤◌, ◌&&◌, ◌++◌, List, length, refl, ap, arith, ◌∙◌, nat_eq}
use Rattle.std.proofs.lemmas.Bool.Decides.{Decides-eqb, Decides-and, Decides-like}
use Rattle.std.proofs.lemmas.List.{length-append}
use Rattle.std.specs.Bool.{Decides}
use Rattle.std.specs.Option.{option_eq}
use Rattle.std.specs.declared.option.Option.{Option}
use Rattle.std.specs.declared.option.Option.TheVariants.{Some, None}
use Rattle.rmt_entries.specs.declared.entry.Entry.{Entry}
use Rattle.rmt_model.specs.Lawful.{IsPrefix}

option-decides : (a b : Option ℕ) → Decides (option_eq nat_eq a b) (a ≡ b)
option-decides None None = (λ e. refl, λ e. refl)
option-decides None (Some y) = (λ e. absurd (cc), λ e. absurd (cc))
option-decides (Some x) None = (λ e. absurd (cc), λ e. absurd (cc))
option-decides (Some x) (Some y) = Decides-like (nat_eq x y) (λ e. ap Some e) (λ e. cc) (Decides-eqb x y)

pub pair-decides : (a b : Option ℕ × ℕ) → Decides (option_eq nat_eq a.0 b.0 && nat_eq a.1 b.1) (a ≡ b)
pair-decides a b = Decides-like (option_eq nat_eq a.0 b.0 && nat_eq a.1 b.1) both (λ e. (ap (λ (x : Option ℕ × ℕ). x.0) e, ap (λ (x : Option ℕ × ℕ). x.1) e)) (Decides-and (option_eq nat_eq a.0 b.0) (nat_eq a.1 b.1) (option-decides a.0 b.0) (Decides-eqb a.1 b.1))
  where
    both : (a.0 ≡ b.0) × (a.1 ≡ b.1) → a ≡ b
    both h = ap (λ (p : Option ℕ). (p, a.1)) h.0 ∙ ap (λ (n : ℕ). (b.0, n)) h.1

pub prefix-length : (shorter longer : List Entry) → IsPrefix shorter longer → length shorter ≤ length longer
prefix-length shorter longer p =
    let e : length longer ≡ length (p.gained ++ shorter) = ap (λ (l : List Entry). length l) p.is in
    let a = length-append p.gained shorter in
    omega (arith, e, a)
