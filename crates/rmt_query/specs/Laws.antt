-- What holds of answers, in whatever order rows are.
use Rattle.std.specs.Prelude.{◌≡◌, List}
use Rattle.rmt_values.specs.declared.value.Value.{Value}
use Rattle.rmt_values.specs.declared.checked_query.CheckedQuery.{CheckedQuery}
use Rattle.rmt_values.specs.Rows.{Shape}
use Rattle.rmt_values.specs.Order.{SameBag}
use Rattle.rmt_query.specs.Answers.{answer_of}

-- rows of one bag have one answer
abbrev pub OneAnswer : Type 0
OneAnswer = (shape : Shape) (query : CheckedQuery) (xs ys : List (List Value)) → SameBag xs ys → answer_of shape query xs ≡ answer_of shape query ys
