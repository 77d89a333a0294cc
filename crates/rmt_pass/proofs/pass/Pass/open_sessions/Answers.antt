use Rattle.std.proofs.Common.{◌≡◌, ◌+◌, ◌≤◌, length, arith, refl, sym, ap, subst, ◌∙◌}
use Rattle.rmt_table_model.specs.Held.{Held}
use Rattle.rmt_pass.specs.Passes.{PassView}
use Rattle.rmt_pass.proofs.TakingLemmas.{one-there}
use Rattle.rmt_pass.proofs.OwnLemmas.{others-stay}
use Rattle.rmt_pass.proofs.SwitchLemmas.{set-current, set-others, set-sessions, are-open}
use Rattle.rmt_pass.proofs.pass.Pass.open_sessions.Goals as goal

pub replicas-init : goal.replicas-init
replicas-init g c = record {
  current = c.requires.current;
  others = others-stay c.args.tables.now c.args.tables.now c.args.table c.requires.current.table refl;
  first = omega arith;
  sessions = record { table = c.requires.current.table; is = c.requires.current.is; fact = λ j l m. absurd (omega (arith, l, m)) };
}

pub replicas-preserved : goal.replicas-preserved
replicas-preserved g c =
    let P = c.args.self.now in
    let i = c.replicas.invariant in
    let r = c.replicas.replica in
    let s = c.in_ok-set_session.ensures.ok in
    record {
      current = set-current P c.args.table c.args.tables.now c.replicas.tables c.set_session.new.tables i.current i.others r i.sessions c.is_up.result c.is_up.ensures s;
      others = set-others P c.args.table c.args.tables.now c.replicas.tables c.set_session.new.tables i.current i.others r i.sessions c.is_up.result c.is_up.ensures s;
      first = omega arith;
      sessions = set-sessions P c.args.table c.args.tables.now c.replicas.tables c.set_session.new.tables i.current i.others r i.sessions c.is_up.result c.is_up.ensures s;
    }

pub returns-clause-ok : goal.returns-clause-ok
returns-clause-ok g c =
    let k = c.args.table in
    let i = c.replicas.invariant in
    let h = i.sessions.table in
    let up : length c.self.inside.up.items ≡ length c.args.self.now.up = ap (λ (p : PassView). length p.up) c.self.view_is in
    let same : c.table-2.result.now ≡ h = one-there c.replicas.tables k c.table-2.result.now h i.current.there (c.table-2.ensures.same c.table-2.result.now) i.sessions.is in
    let n = c.len.ensures in
    let past = c.replicas-test.false in
    let within : c.replicas.replica ≤ c.len.result + 1 = c.replicas.auto.replica-end (omega arith) in
    record {
      table = h;
      is = i.sessions.is;
      fact = are-open c.args.self.now.up h c.replicas.replica i.sessions.fact (omega (arith, n, up, past, within))
          (ap (λ (x : Held). length x.sessions) (sym same) ∙ (c.table-2.ensures.sessions ∙ (sym c.self.invariant.ups ∙ up)))
          (subst (λ (x : Held). length x.sessions ≤ 8) same c.no_limit_is_passed-2.ensures.replicas);
    }
