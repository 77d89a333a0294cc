-- How texts of a storm grow.
use Rattle.std.proofs.Common.{◌≡◌, ◌∙◌, ◌<◌, ◌≤◌, ◌-◌, ◌+◌, ◌%◌, ℕ, suc, ◌⊎◌, inl, inr, ◌&&◌, Bool, true, false, nat_lt, List, ◌++◌, ap, append-nil, append_assoc, refl, sym, arith}
use Rattle.std.specs.Prelude.{OnOk, codes, ◌==◌, if◌then◌else◌}
use Rattle.std.proofs.lemmas.Bool.Decides.{nat_tests}
use Rattle.std.specs.declared.result.Result.{Result}
use Rattle.std.specs.declared.result.Result.TheVariants.{Ok, Err}
use Rattle.std.specs.Fmt.{decimal}
use Rattle.rmt_storm.specs.Storms.{Storm, state_after, alter_or_count_turn, turn_of_kind, draw_at, more_rows, upkeep_turn, plain_turn, row_text, replica_line, optimize_lines, turn_after, turns_text}

-- three texts behind one
pub behind : (o c r t : List ℕ) → ((o ++ c) ++ r) ++ t ≡ o ++ ((c ++ r) ++ t)
behind o c r t = ap (λ z. z ++ t) (append_assoc o c r) ∙ append_assoc o (c ++ r) t

-- a row more, and fewer to come
pub row-text : (n k p s z : ℕ) (o a b all : List ℕ) → k < n → a ≡ o ++ codes "," → b ≡ a ++ row_text p s → z ≡ state_after 2 s → o ++ (more_rows (n - k) p s).text ≡ all → b ++ (more_rows (n - (k + 1)) p z).text ≡ all
row-text n k p s z o a b all h ea eb es i =
    let e : n - k ≡ suc (n - (k + 1)) = omega (arith, h) in
    ap (λ (w : List ℕ). w ++ (more_rows (n - (k + 1)) p z).text) (eb ∙ ap (λ (w : List ℕ). w ++ row_text p s) ea)
    ∙ (ap (λ (w : ℕ). ((o ++ codes ",") ++ row_text p s) ++ (more_rows (n - (k + 1)) p w).text) es
    ∙ (behind o (codes ",") (row_text p s) (more_rows (n - (k + 1)) p (state_after 2 s)).text
    ∙ (sym (ap (λ (w : ℕ). o ++ (more_rows w p s).text) e) ∙ i)))

pub row-state : (n k p s z all : ℕ) → k < n → z ≡ state_after 2 s → (more_rows (n - k) p s).state ≡ all → (more_rows (n - (k + 1)) p z).state ≡ all
row-state n k p s z all h es i =
    let e : n - k ≡ suc (n - (k + 1)) = omega (arith, h) in
    ap (λ (w : ℕ). (more_rows (n - (k + 1)) p w).state) es ∙ (sym (ap (λ (w : ℕ). (more_rows w p s).state) e) ∙ i)

-- a turn more, and fewer to come
pub turn-text : (n k : ℕ) (s z : Storm) (o a all : List ℕ) → k < n → a ≡ o ++ (turn_after s).lines → z ≡ (turn_after s).next → o ++ turns_text (n - k) s ≡ all → a ++ turns_text (n - (k + 1)) z ≡ all
turn-text n k s z o a all h ea es i =
    let e : n - k ≡ suc (n - (k + 1)) = omega (arith, h) in
    ap (λ (w : List ℕ). w ++ turns_text (n - (k + 1)) z) ea
    ∙ (ap (λ (w : Storm). (o ++ (turn_after s).lines) ++ turns_text (n - (k + 1)) w) es
    ∙ (append_assoc o (turn_after s).lines (turns_text (n - (k + 1)) (turn_after s).next)
    ∙ (sym (ap (λ (w : ℕ). o ++ turns_text w s) e) ∙ i)))

-- none is to come
pub all-turns : (n k : ℕ) (s : Storm) (o all : List ℕ) → n ≤ k → o ++ turns_text (n - k) s ≡ all → o ≡ all
all-turns n k s o all h i =
    let e : n - k ≡ 0 = omega (arith, h) in
    sym (append-nil o) ∙ (sym (ap (λ (w : ℕ). o ++ turns_text w s) e) ∙ i)

-- ---- what holds where a call succeeds

pub on-ok : {A E P Q : Type 0} (r : Result A E) → (P → Q) → OnOk r P → OnOk r Q
on-ok (Ok a) f p = f p
on-ok (Err e) f p = tt

-- ---- choices

kept : {A : Type 0} (b : Bool) (x y : A) → b ≡ true → (if b then x else y) ≡ x
kept true x y e = refl
kept false x y e = absurd (cc)

passed : {A : Type 0} (b : Bool) (x y : A) → b ≡ false → (if b then x else y) ≡ y
passed true x y e = absurd (cc)
passed false x y e = refl

less : (a n : ℕ) → a < n → nat_lt a n ≡ true
less a n h = grind (arith, nat_tests)

more : (a n : ℕ) → n ≤ a → nat_lt a n ≡ false
more a n h = grind (arith, nat_tests)

other : (a n : ℕ) → (a ≡ n → ⊥) → (a == n) ≡ false
other a n h = grind (arith, nat_tests)

-- there was an ALTER
pub settles-some : (r n : ℕ) → (n ≡ 0 → ⊥) → optimize_lines r n ≡ replica_line r (codes "WAIT MUTATION s " ++ decimal (n - 1)) ++ replica_line r (codes "OPTIMIZE TABLE s FINAL")
settles-some r n h = passed (n == 0) _ _ (other n 0 h)

pub sums : (a r : ℕ) (s : Storm) → 10 ≤ a → a < 12 → turn_of_kind a r s ≡ plain_turn (replica_line r (codes "SELECT count(), sum(v) FROM s SYNC")) 0 s
sums a r s h l = passed (nat_lt a 9) _ _ (more a 9 (omega (arith, h))) ∙ (passed (nat_lt a 10) _ _ (more a 10 h) ∙ kept (nat_lt a 12) _ _ (less a 12 l))

pub settling : (a r : ℕ) (s : Storm) → 14 ≤ a → a < 15 → turn_of_kind a r s ≡ plain_turn (optimize_lines r s.alters) 0 s
settling a r s h l = passed (nat_lt a 9) _ _ (more a 9 (omega (arith, h))) ∙ (passed (nat_lt a 10) _ _ (more a 10 (omega (arith, h))) ∙ (passed (nat_lt a 12) _ _ (more a 12 (omega (arith, h))) ∙ (passed (nat_lt a 14) _ _ (more a 14 h) ∙ kept (nat_lt a 15) _ _ (less a 15 l))))

pub last : (a r : ℕ) (s : Storm) → 15 ≤ a → turn_of_kind a r s ≡ upkeep_turn r s
last a r s h = passed (nat_lt a 9) _ _ (more a 9 (omega (arith, h))) ∙ (passed (nat_lt a 10) _ _ (more a 10 (omega (arith, h))) ∙ (passed (nat_lt a 12) _ _ (more a 12 (omega (arith, h))) ∙ (passed (nat_lt a 14) _ _ (more a 14 (omega (arith, h))) ∙ passed (nat_lt a 15) _ _ (more a 15 h))))

pub syncs : (r : ℕ) (s : Storm) → (draw_at 0 s.state % 4 ≡ 0 → ⊥) → (draw_at 0 s.state % 4 ≡ 1 → ⊥) → (draw_at 0 s.state % 4 ≡ 2 → ⊥) → upkeep_turn r s ≡ plain_turn (replica_line r (codes "SYSTEM SYNC REPLICA s")) 1 s
syncs r s h i j = passed (draw_at 0 s.state % 4 == 0) _ _ (other _ 0 h) ∙ (passed (draw_at 0 s.state % 4 == 1) _ _ (other _ 1 i) ∙ passed (draw_at 0 s.state % 4 == 2) _ _ (other _ 2 j))

apart : (a k n : ℕ) → ((a < 1000) × (k ≡ n → ⊥)) ⊎ (1000 ≤ a) → (nat_lt a 1000 && (k == n)) ≡ false
apart a k n (inl h) = let d = h.1 in grind (arith, nat_tests)
apart a k n (inr h) = grind (arith, nat_tests)

pub counts : (r k : ℕ) (s : Storm) → k ≡ draw_at 0 s.state % 8 → ((s.alters < 1000) × (k ≡ 0 → ⊥)) ⊎ (1000 ≤ s.alters) → ((s.alters < 1000) × (k ≡ 1 → ⊥)) ⊎ (1000 ≤ s.alters) → alter_or_count_turn r s ≡ plain_turn (replica_line r (codes "SELECT count() FROM s")) 1 s
counts r k s e h i =
    passed (nat_lt s.alters 1000 && (draw_at 0 s.state % 8 == 0)) _ _ (ap (λ (b : ℕ). nat_lt s.alters 1000 && (b == 0)) (sym e) ∙ apart s.alters k 0 h)
    ∙ passed (nat_lt s.alters 1000 && (draw_at 0 s.state % 8 == 1)) _ _ (ap (λ (b : ℕ). nat_lt s.alters 1000 && (b == 1)) (sym e) ∙ apart s.alters k 1 i)

-- what a turn does, by its draws
pub turn-by : (a r x : ℕ) (s : Storm) → a ≡ draw_at 0 s.state % 16 → r ≡ 1 + draw_at 1 s.state % 3 → x ≡ state_after 2 s.state → turn_of_kind a r (record { state = x; last = s.last; alters = s.alters }) ≡ turn_after s
turn-by a r x s d e f =
    ap (λ (n : ℕ). turn_of_kind n r (record { state = x; last = s.last; alters = s.alters })) d
    ∙ (ap (λ (n : ℕ). turn_of_kind (draw_at 0 s.state % 16) n (record { state = x; last = s.last; alters = s.alters })) e
    ∙ ap (λ (n : ℕ). turn_of_kind (draw_at 0 s.state % 16) (1 + draw_at 1 s.state % 3) (record { state = n; last = s.last; alters = s.alters })) f)
