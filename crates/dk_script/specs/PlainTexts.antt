-- The texts of answers, one after another.
use Rattle.std.specs.Prelude.{ℕ, List, [], unwrap_or, flat_map}
use Rattle.dk_texts.specs.Texts.{session_text}
use Rattle.dk_script.specs.declared.plain.SessionAnswer.{SessionAnswer}

abbrev pub answers_text : List SessionAnswer → List ℕ
answers_text answers =
    flat_map (λ told. session_text told.session (unwrap_or told.answer.name []) told.answer.reply) answers
