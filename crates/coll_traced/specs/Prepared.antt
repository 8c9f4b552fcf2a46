-- What a post keeps.
use Rattle.std.specs.Prelude.{◌≡◌, ◌<◌, ◌^◌, length}
use Rattle.coll_core.specs.declared.offer.Offer.{Offer}
use Rattle.coll_core.specs.Posts.{IsLaid}
use Rattle.coll_traced.specs.declared.prepared.Prepared.{Prepared}

-- a copy of what is given, unless that is more than any collective takes, and the schedule's buffer with it laid in
pub record IsPreparedFor (offer : Offer) (prepared : Prepared) : Type 0 where
  pub shared : length offer.bytes < 2 ^ 32 → prepared.bytes ≡ offer.bytes
  pub laid_in : IsLaid offer prepared.laid
