-- The counts that two steps of the code leave alone, one after the other.
use mathlib.Core.Path.{refl, ◌∙◌}
use Rattle.emitting.specs.declared.Writing.{Writing}
use Rattle.emitting.specs.model.Arrays.{Alike}

pub alike_same : (t : Writing) → Alike t t
alike_same t = record { slots = refl; level = refl; loops = refl; cells = refl; lefts = refl; declared = refl }

pub alike_then : {t s r : Writing} → Alike t s → Alike s r → Alike t r
alike_then a b =
    record {
      slots = b.slots ∙ a.slots;
      level = b.level ∙ a.level;
      loops = b.loops ∙ a.loops;
      cells = b.cells ∙ a.cells;
      lefts = b.lefts ∙ a.lefts;
      declared = b.declared ∙ a.declared;
    }
