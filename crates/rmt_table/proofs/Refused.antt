-- Why a block isn't accepted.
use Rattle.std.proofs.Common.{◌≡◌, ℕ, ◌+◌, ◌-◌, ◌<◌, ◌≤◌, Bool, true, false, cond, nat_le, nat_lt, List, sym, ap, subst, arith, ◌∙◌}
use Rattle.std.specs.Prelude.{IfSome}
use Rattle.std.proofs.lemmas.Bool.Decides.{nat_tests}
use Rattle.std.specs.declared.option.Option.{Option}
use Rattle.std.specs.declared.option.Option.TheVariants.{Some, None}
use Rattle.rmt_values.specs.declared.limit.Limit.{Limit}
use Rattle.rmt_values.specs.declared.limit.Limit.TheVariants as limits
use Rattle.rmt_names.specs.Names.{Name}
use Rattle.rmt_entries.specs.declared.entry.Entry.{Entry}
use Rattle.rmt_model.specs.EntryLimits.{client_count, commit_limit}
use Rattle.rmt_table_model.specs.Kept.{in_order}
use Rattle.rmt_table_model.specs.Inserts.{part_of}
use Rattle.rmt_table_model.specs.Held.{Held}
use Rattle.rmt_events.specs.TableCalls.{IsLocked, kept_part}
use Rattle.rmt_events.specs.TableRefusals.{HasQuorum}
use Rattle.rmt_table.specs.declared.lock.Lock.{Lock}
use Rattle.rmt_table.specs.declared.commit_error.CommitError.{CommitError}
use Rattle.rmt_table.specs.declared.commit_error.CommitError.TheVariants as commit
use Rattle.rmt_table.specs.Causes.{commit_cause}
use Rattle.rmt_table.specs.Refusals.{NoCommit, IsAcceptable, TakesLock, commit_of}
use Rattle.rmt_table.specs.Quorums.{NoQuorum}
use Rattle.rmt_table.specs.declared.quorum_error.QuorumError.{QuorumError}
use Rattle.rmt_table.specs.declared.quorum_error.QuorumError.TheVariants as quorum
use Rattle.rmt_table.specs.TableTrees.{table_at}
use Rattle.rmt_table.proofs.Allocated.{kept-seen}

entries-limit : (log : List Entry) (held values : ℕ) → 32768 ≤ client_count log → commit_limit log held values ≡ Some (limits.ClientEntries, client_count log)
entries-limit log held values l =
    let b : nat_le 32768 (client_count log) ≡ true = grind (arith, nat_tests) in
    ap (λ (c : Bool). cond {A = Option (Limit × ℕ)} c (Some (limits.ClientEntries, client_count log)) (cond {A = Option (Limit × ℕ)} (nat_lt 8388608 (held + values)) (Some (limits.Values, held)) None)) b

rest-limit : (log : List Entry) (held values : ℕ) → client_count log < 32768 → commit_limit log held values ≡ cond {A = Option (Limit × ℕ)} (nat_lt 8388608 (held + values)) (Some (limits.Values, held)) None
rest-limit log held values l =
    let b : nat_le 32768 (client_count log) ≡ false = grind (arith, nat_tests) in
    ap (λ (c : Bool). cond {A = Option (Limit × ℕ)} c (Some (limits.ClientEntries, client_count log)) (cond {A = Option (Limit × ℕ)} (nat_lt 8388608 (held + values)) (Some (limits.Values, held)) None)) b

values-limit : (log : List Entry) (held values : ℕ) → client_count log < 32768 → 8388608 - held < values → commit_limit log held values ≡ Some (limits.Values, held)
values-limit log held values l v =
    let b : nat_lt 8388608 (held + values) ≡ true = grind (arith, nat_tests) in
    rest-limit log held values l ∙ ap (λ (c : Bool). cond {A = Option (Limit × ℕ)} c (Some (limits.Values, held)) None) b

no-limit : (log : List Entry) (held values : ℕ) → client_count log < 32768 → held ≤ 8388608 → values ≤ 8388608 - held → commit_limit log held values ≡ None
no-limit log held values l w v =
    let b : nat_lt 8388608 (held + values) ≡ false = grind (arith, nat_tests) in
    rest-limit log held values l ∙ ap (λ (c : Bool). cond {A = Option (Limit × ℕ)} c (Some (limits.Values, held)) None) b

-- the cause of the error is why the block isn't accepted
abbrev pub HasCause : Held → Lock → ℕ → ℕ → CommitError → Type 0
HasCause h lock need values x = IfSome (commit_cause x) (NoCommit (table_at h) lock need values)

-- its quorum refuses a block
pub refused-quorum : (now : Held) (lock : Lock) (need values : ℕ) → IsLocked (table_at now).locks lock.id.partition lock.number → (x : QuorumError) → NoQuorum (table_at now) need x → (y : CommitError) → y ≡ commit_of x → HasCause now lock need values y
refused-quorum now lock need values locked (quorum.TooFewLive live needed) q y f = subst (HasCause now lock need values) (sym f) (locked, q)
refused-quorum now lock need values locked (quorum.QuorumPending a) q y f = subst (HasCause now lock need values) (sym f) (locked, q)

pub quorum-takes : (x : QuorumError) (y : CommitError) → y ≡ commit_of x → TakesLock y
quorum-takes (quorum.TooFewLive live needed) y f = subst TakesLock (sym f) tt
quorum-takes (quorum.QuorumPending a) y f = subst TakesLock (sym f) tt

module _ (h now : Held) (e : h ≡ now) (lock : Lock) (need values : ℕ) (free : HasQuorum (table_at now) need) (part : Option Name) (kept-is : part ≡ part_of lock.id.partition lock.id.digest (in_order h.schema.window h.log)) where
  kept-now : (o : Option Name) → part ≡ o → kept_part (table_at now).window lock.id.partition lock.id.digest ≡ o
  kept-now o f = subst (λ (w : Held). kept_part (table_at w).window lock.id.partition lock.id.digest ≡ o) e (kept-seen h lock.id.partition lock.id.digest part kept-is ∙ f)

  module _ (locked : IsLocked (table_at now).locks lock.id.partition lock.number) where
    pub refused-kept : (a : Name) → part ≡ Some a → HasCause now lock need values (commit.Duplicate a)
    refused-kept a f = (locked, (free, kept-now (Some a) f))

    refused-limit : part ≡ None → (limit : Limit) (m : ℕ) → commit_limit h.log h.values values ≡ Some (limit, m) → HasCause now lock need values (commit.LimitReached limit m)
    refused-limit f limit m q = (locked, (free, kept-now None f, subst (λ (w : Held). commit_limit w.log w.values values ≡ Some (limit, m)) e q))

    pub refused-entries : part ≡ None → (clients : ℕ) → clients ≡ client_count h.log → 32768 ≤ clients → (m : ℕ) → m ≡ clients → HasCause now lock need values (commit.LimitReached limits.ClientEntries m)
    refused-entries f clients c l m q = refused-limit f limits.ClientEntries m (entries-limit h.log h.values values (omega (arith, c, l)) ∙ ap (λ (x : ℕ). Some (limits.ClientEntries, x)) (omega (arith, c, q)))

    pub refused-values : part ≡ None → (clients : ℕ) → clients ≡ client_count h.log → clients < 32768 → 8388608 - h.values < values → HasCause now lock need values (commit.LimitReached limits.Values h.values)
    refused-values f clients c l v = refused-limit f limits.Values h.values (values-limit h.log h.values values (omega (arith, c, l)) v)

  pub acceptable : part ≡ None → (clients : ℕ) → clients ≡ client_count h.log → clients < 32768 → h.values ≤ 8388608 → values ≤ 8388608 - h.values → IsAcceptable (table_at now) lock need values
  acceptable f clients c l w v = record {
    quorum = free;
    unkept = kept-now None f;
    within = subst (λ (x : Held). commit_limit x.log x.values values ≡ None) e (no-limit h.log h.values values (omega (arith, c, l)) w v);
  }
