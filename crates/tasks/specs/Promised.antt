-- The tasks whose work threads promise, and room for threads and for what they make.
use Rattle.std.specs.Prelude.{◌≡◌, ◌≤◌, ℕ, List, [], map, Vec, vec_capacity}
use Rattle.std.specs.declared.thread.PromisedHandle.{PromisedHandle}
use Rattle.std.specs.declared.alloc.Global.{Global}
use Rattle.tasks.specs.declared.running.MadeBy.{MadeBy}
use Rattle.tasks.specs.declared.running.Room.{Room}

-- the tasks of threads, in their order
abbrev pub tasks_of : {D T : Type 0} → List (PromisedHandle D (MadeBy T)) → List T
tasks_of handles = map (λ handle. handle.promise.task.value) handles

-- a list that is empty, and takes so many without memory
pub record IsRoomFor {T : Type 0} (count : ℕ) (list : Vec T Global) : Type 0 where
  pub empty : list.items ≡ []
  pub reserved : count ≤ vec_capacity list

-- such lists of threads and of what they make
pub record IsRoom {D T : Type 0} (count : ℕ) (room : Room D T) : Type 0 where
  pub handles : IsRoomFor count room.handles
  pub done : IsRoomFor count room.done
