-- `map` is determined by its contract: two outcomes that it allows for the same arguments have the same answer, and leave the same room. Its first two
-- parts are equations, so the two are joined through their right sides; the third is a bound that a caller needs. Assumes nothing.
use mathlib.Core.Path.{◌≡◌, sym, ◌∙◌}
use Rattle.maps.proofs.map.Reads as map

pub map_determined : (κs : _) (a : _) (r r' : _) (s s' : _) → map.Post κs a r s → map.Post κs a r' s'
    → (r ≡ r') × (s.1.0.now ≡ s'.1.0.now)
map_determined κs a r r' s s' p q = (p.0 ∙ sym q.0, p.1 ∙ sym q.1)
