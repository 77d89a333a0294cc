-- Which job is right.
use Rattle.std.proofs.Common.{◌≡◌, ℕ, zero, suc, ◌<◌, ◌≤◌, ◌⊎◌, inl, inr, Bool, true, false, List, length, nat_lt, refl, sym, ap, arith, ◌∙◌}
use Rattle.std.proofs.lemmas.Bool.Decides.{nat_tests}
use Rattle.std.specs.Prelude.{IfOk, OnErr}
use Rattle.std.specs.declared.alloc.AllocError.{AllocError}
use Rattle.std.specs.declared.option.Option.{Option}
use Rattle.std.specs.declared.option.Option.TheVariants.{Some, None}
use Rattle.std.specs.declared.result.Result.{Result}
use Rattle.std.specs.declared.result.Result.TheVariants.{Ok, Err}
use Rattle.rmt_names.specs.Names.{Name}
use Rattle.rmt_model.proofs.Drops.{some-same}
use Rattle.rmt_events.specs.Draws.{chosen, next_mutation as mutation_next}
use Rattle.rmt_replica.specs.Replicas.{ReplicaView}
use Rattle.rmt_jobs.specs.declared.job.Job.{Job}
use Rattle.rmt_jobs.specs.declared.job.Job.TheVariants as jobs
use Rattle.rmt_jobs.specs.Jobs.{IsToApply, IsFirstToApply, HasPulled, HasNothingToApply, IsJob}

-- ---- answers

pub free-job : (t : Result Job AllocError) (r : ReplicaView) (len : ℕ)
    → IfOk t (λ job. (n : ℕ) → HasNothingToApply r n → IsJob r n job) → HasNothingToApply r len → IfOk t (IsJob r len)
free-job (Ok job) r len f free = f len free
free-job (Err e) r len f free = tt

pub free-err : (t : Result Job AllocError) (r : ReplicaView) (len : ℕ) → HasNothingToApply r len → OnErr t (HasNothingToApply r len)
free-err (Ok job) r len free = tt
free-err (Err e) r len free = free

-- ---- at most one job

up-down : (r : ReplicaView) → r.up ≡ true → r.up ≡ false → ⊥
up-down r u d = absurd (cc)

short-whole : (r : ReplicaView) (len : ℕ) → length r.log < len → len ≤ length r.log → ⊥
short-whole r len s w = omega (arith, s, w)

none-some : {A : Type 0} (o : Option A) (x : A) → o ≡ None → o ≡ Some x → ⊥
none-some o x n s = absurd (cc)

-- nothing to do at a replica that is up
abbrev HasNoJob : ReplicaView → ℕ → Type 0
HasNoJob r len = HasNothingToApply r len × (chosen r.log 10 ≡ None) × (mutation_next r.log ≡ None)

idle-pull : (r : ReplicaView) (len : ℕ) → (r.up ≡ false) ⊎ HasNoJob r len → r.up ≡ true → length r.log < len → ⊥
idle-pull r len (inl d) u s = up-down r u d
idle-pull r len (inr f) u s = short-whole r len s f.0.pulled.whole

idle-apply : (r : ReplicaView) (len i : ℕ) → (r.up ≡ false) ⊎ HasNoJob r len → HasPulled r len → IsToApply r i → ⊥
idle-apply r len i (inl d) p a = up-down r p.up d
idle-apply r len i (inr f) p a = f.0.none i a

idle-merge : (r : ReplicaView) (len : ℕ) (names : List Name) → (r.up ≡ false) ⊎ HasNoJob r len → HasNothingToApply r len
    → chosen r.log 10 ≡ Some names → ⊥
idle-merge r len names (inl d) f c = up-down r f.pulled.up d
idle-merge r len names (inr n) f c = none-some (chosen r.log 10) names n.1 c

idle-mutate : (r : ReplicaView) (len : ℕ) (m : Name × ℕ) → (r.up ≡ false) ⊎ HasNoJob r len → HasNothingToApply r len
    → mutation_next r.log ≡ Some m → ⊥
idle-mutate r len m (inl d) f c = up-down r f.pulled.up d
idle-mutate r len m (inr n) f c = none-some (mutation_next r.log) m n.2 c

first-same : (r : ReplicaView) (i j : ℕ) → IsFirstToApply r i → IsFirstToApply r j → i ≡ j
first-same r i j a b =
    let f : i < j → ⊥ = λ h. b.lowest i h a.applies in
    let g : j < i → ⊥ = λ h. a.lowest j h b.applies in
    omega (arith, f, g)

mutate-same : (a b : Name) (m n : ℕ) (o : Option (Name × ℕ)) → o ≡ Some (a, m) → o ≡ Some (b, n)
    → ◌≡◌ {A = Job} (jobs.Mutate a m) (jobs.Mutate b n)
mutate-same a b m n o p q =
    ap (λ (z : Name × ℕ). jobs.Mutate z.0 z.1) (some-same (a, m) (b, n) (sym p ∙ q))

pub one-job : (r : ReplicaView) (len : ℕ) (a b : Job) → IsJob r len a → IsJob r len b → a ≡ b
one-job r len jobs.Idle jobs.Idle x y = refl
one-job r len jobs.Idle jobs.Pull x y = absurd (idle-pull r len x y.0 y.1)
one-job r len jobs.Idle (jobs.Apply j) x y = absurd (idle-apply r len j x y.0 y.1.applies)
one-job r len jobs.Idle (jobs.Merge bs) x y = absurd (idle-merge r len bs x y.0 y.1)
one-job r len jobs.Idle (jobs.Mutate b n) x y = absurd (idle-mutate r len (b, n) x y.0 y.2)
one-job r len jobs.Pull jobs.Idle x y = absurd (idle-pull r len y x.0 x.1)
one-job r len jobs.Pull jobs.Pull x y = refl
one-job r len jobs.Pull (jobs.Apply j) x y = absurd (short-whole r len x.1 y.0.whole)
one-job r len jobs.Pull (jobs.Merge bs) x y = absurd (short-whole r len x.1 y.0.pulled.whole)
one-job r len jobs.Pull (jobs.Mutate b n) x y = absurd (short-whole r len x.1 y.0.pulled.whole)
one-job r len (jobs.Apply i) jobs.Idle x y = absurd (idle-apply r len i y x.0 x.1.applies)
one-job r len (jobs.Apply i) jobs.Pull x y = absurd (short-whole r len y.1 x.0.whole)
one-job r len (jobs.Apply i) (jobs.Apply j) x y = ap jobs.Apply (first-same r i j x.1 y.1)
one-job r len (jobs.Apply i) (jobs.Merge bs) x y = absurd (y.0.none i x.1.applies)
one-job r len (jobs.Apply i) (jobs.Mutate b n) x y = absurd (y.0.none i x.1.applies)
one-job r len (jobs.Merge first) jobs.Idle x y = absurd (idle-merge r len first y x.0 x.1)
one-job r len (jobs.Merge first) jobs.Pull x y = absurd (short-whole r len y.1 x.0.pulled.whole)
one-job r len (jobs.Merge first) (jobs.Apply j) x y = absurd (x.0.none j y.1.applies)
one-job r len (jobs.Merge first) (jobs.Merge bs) x y = ap jobs.Merge (some-same first bs (sym x.1 ∙ y.1))
one-job r len (jobs.Merge first) (jobs.Mutate b n) x y = absurd (none-some (chosen r.log 10) first y.1 x.1)
one-job r len (jobs.Mutate a m) jobs.Idle x y = absurd (idle-mutate r len (a, m) y x.0 x.2)
one-job r len (jobs.Mutate a m) jobs.Pull x y = absurd (short-whole r len y.1 x.0.pulled.whole)
one-job r len (jobs.Mutate a m) (jobs.Apply j) x y = absurd (x.0.none j y.1.applies)
one-job r len (jobs.Mutate a m) (jobs.Merge bs) x y = absurd (none-some (chosen r.log 10) bs x.1 y.1)
one-job r len (jobs.Mutate a m) (jobs.Mutate b n) x y = mutate-same a b m n (mutation_next r.log) x.2 y.2

-- ---- some job

-- where no place is the first to apply, there is none to apply
none-to-apply : (r : ReplicaView) → ((i : ℕ) → IsFirstToApply r i → ⊥) → (n k : ℕ) → k < n → IsToApply r k → ⊥
none-to-apply r f zero k h t = omega (arith, h)
none-to-apply r f (suc n) k h t =
    f k (record { applies = t; lowest = λ j l u. none-to-apply r f n j (omega (arith, h, l)) u })

-- with neither to pull nor to apply there is a merge, a mutate, or nothing
free-some : (r : ReplicaView) (len : ℕ) (o : Option (List Name)) (m : Option (Name × ℕ)) → chosen r.log 10 ≡ o
    → mutation_next r.log ≡ m → HasNothingToApply r len → ((job : Job) → IsJob r len job → ⊥) → ⊥
free-some r len (Some names) m c q free none = none (jobs.Merge names) (free, c)
free-some r len None (Some z) c q free none = none (jobs.Mutate z.0 z.1) (free, c, q)
free-some r len None None c q free none = none jobs.Idle (inr (free, c, q))

pub some-job : (r : ReplicaView) (len : ℕ) → ((job : Job) → IsJob r len job → ⊥) → ⊥
some-job r len none = go r.up refl (nat_lt (length r.log) len) refl
  where
    go : (up : Bool) → r.up ≡ up → (short : Bool) → nat_lt (length r.log) len ≡ short → ⊥
    go false d short s = none jobs.Idle (inl d)
    go true u true s = none jobs.Pull (u, grind (arith, nat_tests))
    go true u false s =
        let pulled : HasPulled r len = record { up = u; whole = grind (arith, nat_tests) } in
        let first : (i : ℕ) → IsFirstToApply r i → ⊥ = λ i f. none (jobs.Apply i) (pulled, f) in
        let free : HasNothingToApply r len = record { pulled = pulled; none = λ k. none-to-apply r first (suc k) k (omega arith) } in
        free-some r len (chosen r.log 10) (mutation_next r.log) refl refl free none
