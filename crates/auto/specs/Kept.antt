-- What holds of every state, so that nothing in it overflows.
use Rattle.std.specs.Prelude.{ℕ, ◌*◌, ◌^◌, ◌<◌, ◌≤◌}
use Rattle.limit_laws.specs.Facts.{hour}
use Rattle.limit_laws.specs.Algorithm.{greatest_limit}
use Rattle.auto.specs.declared.window.Window.{Window}
use Rattle.auto.specs.declared.learned.Learned.{Learned}

-- THE LONGEST WINDOW: a window ends within so many answers
abbrev pub most_answers : ℕ
most_answers = 640000

-- so many drops of a window are counted
abbrev pub most_drops : ℕ
most_drops = 1000000

-- each answer adds its round trip, what was in flight and a step to the totals
pub record IsKept (w : Window) : Type 0 where
  pub count : w.count ≤ most_answers
  pub least : w.count ≤ w.sum
  pub sum : w.sum ≤ w.count * hour
  pub held : w.held ≤ w.count * (2 ^ 32)
  pub most : w.most < 2 ^ 32
  pub steps : w.steps ≤ w.count * hour
  pub drops : w.drops ≤ most_drops
  pub drops_held : w.drops_held ≤ w.drops * (2 ^ 32)

pub record AreKept (lo hi : ℕ) (l : Learned) : Type 0 where
  pub positive : 1 ≤ lo
  pub least : lo ≤ l.limit
  pub most : l.limit ≤ hi
  pub small : hi ≤ greatest_limit
  pub base : l.base ≤ hour
  pub base_limit : l.base_limit ≤ greatest_limit
  pub calm : l.calm < l.every
  pub every : l.every ≤ 64
  pub pace : l.pace ≤ 4
  pub rough : l.rough ≤ 2048
  pub last : l.last ≤ hour
  pub roof : l.roof ≤ greatest_limit
  pub roof_left : l.roof_left ≤ 64
  pub roof_every : l.roof_every ≤ 64
  pub window : IsKept l.window
  pub ended : IsKept l.ended
