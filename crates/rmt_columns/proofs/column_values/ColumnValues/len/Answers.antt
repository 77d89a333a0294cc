use Rattle.std.proofs.Common.{ap, sym, ◌∙◌, subst}
use Rattle.rmt_columns.specs.Columns.{ColumnView}
use Rattle.rmt_columns.specs.RowsByColumn.{AreOfKind}
use Rattle.rmt_columns.specs.Stored.{values_of, kind_of_stored}
use Rattle.rmt_columns.specs.declared.column_values.Stored.{Stored}
use Rattle.rmt_columns.proofs.TypedLemmas.{unsigned-typed, signed-typed, texts-typed}
use Rattle.rmt_columns.proofs.column_values.ColumnValues.len.Goals as goal

abbrev seen_of : Stored → ColumnView
seen_of s = record { kind = kind_of_stored s; values = values_of s }

pub returns-in-Unsigned-clause-typed : goal.returns-in-Unsigned-clause-typed
returns-in-Unsigned-clause-typed c = subst (λ (v : ColumnView). AreOfKind v.kind v.values) (ap (λ (s : Stored). seen_of s) (sym c.in-Unsigned.is) ∙ c.self.view_is) (unsigned-typed c.in-Unsigned.all.items)

pub returns-in-Signed-clause-typed : goal.returns-in-Signed-clause-typed
returns-in-Signed-clause-typed c = subst (λ (v : ColumnView). AreOfKind v.kind v.values) (ap (λ (s : Stored). seen_of s) (sym c.in-Signed.is) ∙ c.self.view_is) (signed-typed c.in-Signed.all.items)

pub returns-in-Texts-clause-typed : goal.returns-in-Texts-clause-typed
returns-in-Texts-clause-typed c = subst (λ (v : ColumnView). AreOfKind v.kind v.values) (ap (λ (s : Stored). seen_of s) (sym c.in-Texts.is) ∙ c.self.view_is) (texts-typed c.in-Texts.all)
