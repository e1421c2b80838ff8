-- The queues as what waits in them.
use Rattle.std.specs.Prelude.{◌≡◌, ℕ, ◌<◌, ◌≤◌, ◌-◌, ◌∷◌, List, [], length, map, slice_index_or}
use Rattle.gts_prioq.specs.Cited.Below.{Global, VecDeque, deque_capacity, deque_len}
use Rattle.gts_prioq.specs.Waiting.{Waiting, count_of, most_waiting}
use Rattle.gts_prioq.specs.declared.levels.TheConstants.{LEVELS}

-- the positions in a queue
abbrev pub items_of : VecDeque ℕ Global → List ℕ
items_of queue = queue.items

-- how many more positions a queue has room for
abbrev pub room_of : VecDeque ℕ Global → ℕ
room_of queue = deque_capacity queue - deque_len queue

abbrev pub waiting_in : List (VecDeque ℕ Global) → Waiting
waiting_in queues = record { levels = map items_of queues; spares = map room_of queues }

-- the positions of the queue at a place
abbrev pub items_at : List (VecDeque ℕ Global) → ℕ → List ℕ
items_at queues i = slice_index_or (map items_of queues) i []

-- the queue at a place has a first position, and those before it have none
pub record IsFirstFilled (queues : List (VecDeque ℕ Global)) (i : ℕ) : Type 0 where
  pub first : ℕ
  pub behind : List ℕ
  pub filled : items_at queues i ≡ first ∷ behind
  pub before : (k : ℕ) → k < i → items_at queues k ≡ []

-- a queue for each level, and no more positions than may wait
abbrev pub AreQueues : List (VecDeque ℕ Global) → Type 0
AreQueues queues = (length queues ≡ LEVELS) × (count_of (waiting_in queues) ≤ most_waiting)
