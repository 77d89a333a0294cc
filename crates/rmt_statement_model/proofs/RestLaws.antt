-- A table that rests: without workers it is as it was, and two rests are one.
use Rattle.std.proofs.Common.{◌≡◌, ◌+◌, inl, inr, Bool, true, false, sym, subst}
use Rattle.rmt_statement_model.specs.TableStates.{TableState}
use Rattle.rmt_statement_model.specs.Rests.{Idles, Rests}
use Rattle.rmt_statement_model.proofs.RunRows.{works-then}

-- no workers run without workers
pub no-workers : {A : Type 0} → false ≡ true → A
no-workers q = absurd (cc)

-- without workers nothing changes
pub rests-none : (t u : TableState) → Rests false t u → u ≡ t
rests-none t u (inl e) = e
rests-none t u (inr i) = no-workers i.run

-- two rests are one
pub rests-then : (w : Bool) (t u v : TableState) → Rests w t u → Rests w u v → Rests w t v
rests-then w t u v (inl e) g = subst (λ (x : TableState). Rests w x v) e g
rests-then w t u v (inr f) (inl e) = inr (subst (λ (x : TableState). Idles w t x) (sym e) f)
rests-then w t u v (inr f) (inr g) = inr (record { run = f.run; turns = g.turns + f.turns; works = works-then (λ r. true) t u v f.turns g.turns f.works g.works })
