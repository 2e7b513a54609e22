-- How what the calls on a body that comes in chunks give crosses to a program in C or in Rust, as `Handed` has it for
-- the calls on blocks.
-- Assumes nothing.
use Rattle.std.specs.Prelude.{◌≡◌, List, ℕ}
use Rattle.trickle.specs.declared.Fed.{Fed}
use Rattle.trickle.specs.declared.Started.{Started}
use Rattle.trickle.specs.declared.State.{State}
use Rattle.trickle.specs.declared.TrickleAnswer.{TrickleAnswer}
use Rattle.trickle.specs.Answers.{number_of, place_of}

-- The number and the place that are handed over are those of this answer.
pub record AskHanded (answer : TrickleAnswer) (number place : ℕ) : Type 0 where
  pub its_number : number ≡ number_of answer
  pub its_place : place ≡ place_of answer

-- A state is three things.
abbrev pub state_of : (width held : ℕ) (room : List ℕ) → State
state_of width held room = record { width = width; held = held; room = room }

-- Each of them is handed over.
pub record StateHanded (state : State) (width held : ℕ) (room : List ℕ) : Type 0 where
  pub its_width : width ≡ state.width
  pub its_held : held ≡ state.held
  pub its_room : room ≡ state.room

-- Of a start the answer and the state are handed over.
pub record StartHanded (started : Started) (number width held : ℕ) (room : List ℕ) (place : ℕ) : Type 0 where
  pub its_answer : AskHanded started.answer number place
  pub its_state : StateHanded started.state width held room

-- Of a feed it is how many bytes were taken, and the state.
pub record FedHanded (fed : Fed) (taken width held : ℕ) (room : List ℕ) : Type 0 where
  pub its_taken : taken ≡ fed.taken
  pub its_state : StateHanded fed.state width held room
