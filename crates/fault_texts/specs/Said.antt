-- What is said of a code or a status.
use Rattle.std.specs.Prelude.{ℕ, List}
use Rattle.fault_texts.specs.declared.form.CodeText.{CodeText}

pub record Said : Type 0 where
  pub title : List ℕ
  pub meaning : List ℕ
  pub example : List ℕ
  pub answer : List ℕ
  pub mending : List ℕ

abbrev pub said : List ℕ → List ℕ → List ℕ → List ℕ → List ℕ → Said
said title meaning example answer mending = record {
  title = title;
  meaning = meaning;
  example = example;
  answer = answer;
  mending = mending;
}

-- what a text of the code says
abbrev pub said_by : CodeText → Said
said_by text = said text.title.now text.meaning.now text.example.now text.answer.now text.mending.now
