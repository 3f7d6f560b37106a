-- What a station's taps and readers keep.
use Rattle.std.specs.Prelude.{◌≡◌, List, Option, IfSome}
use Rattle.std.specs.List.{AllZip}
use Rattle.cmh_shared.specs.Links.{IsTapOf}
use Rattle.cmh_station.specs.LinkEnds.{Tap}
use Rattle.cmh_shared.specs.Fronts.{Front}
use Rattle.cmh_station.specs.Stations.{Station}

-- a tap of the same ring
pub record IsSameTap (old new : Tap) : Type 0 where
  pub to : new.to ≡ old.to
  pub ring : new.ring ≡ old.ring

-- The taps are those of the station's links, and its readers and what it told are of its board.
pub record BelongTo {S : Type 0} (station : Station S) (taps : List Tap) (first second told : Option Front) : Type 0 where
  pub taps_are : AllZip IsTapOf station.core.links taps
  pub first_is : IfSome first (λ reader. reader.book ≡ station.board.book)
  pub second_is : IfSome second (λ reader. reader.book ≡ station.board.book)
  pub told_is : IfSome told (λ token. token.book ≡ station.board.book)
