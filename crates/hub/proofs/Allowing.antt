-- What may be posted, by what it is.
use Rattle.std.proofs.Common.{◌≡◌, ◌≢◌, true, false, ap, refl}
use Rattle.agg_types.specs.Fits.{fits}
use Rattle.agg_types.specs.declared.config.Config.{Config}
use Rattle.agg_types.specs.declared.event.What.{What}
use Rattle.agg_types.specs.declared.event.What.TheVariants.{Sit, Open, Put, Clear, AddFilter}
use Rattle.agg_types.specs.declared.event.What.TheVariants.{DropFilter, Moment, Leave}
use Rattle.fleet_model.specs.Seats.{is_leave, is_sit}
use Rattle.hub.specs.Roll.{MayPost}

other_than_sit : (what : What) → what ≢ Sit → is_sit what ≡ false
other_than_sit Sit apart = absurd (apart refl)
other_than_sit (Open peer) apart = refl
other_than_sit (Put peer table key life cells) apart = refl
other_than_sit (Clear table sel) apart = refl
other_than_sit (AddFilter filter) apart = refl
other_than_sit (DropFilter name) apart = refl
other_than_sit (Moment moment) apart = refl
other_than_sit Leave apart = refl

other_than_leave : (what : What) → what ≢ Leave → is_leave what ≡ false
other_than_leave Sit apart = refl
other_than_leave (Open peer) apart = refl
other_than_leave (Put peer table key life cells) apart = refl
other_than_leave (Clear table sel) apart = refl
other_than_leave (AddFilter filter) apart = refl
other_than_leave (DropFilter name) apart = refl
other_than_leave (Moment moment) apart = refl
other_than_leave Leave apart = absurd (apart refl)

pub may_post : (config : Config) (what : What) → fits config what ≡ true → what ≢ Sit → what ≢ Leave
    → MayPost config what
may_post config what fit no_sit no_leave = record {
  fits = fit;
  sits = other_than_sit what no_sit;
  leaves = other_than_leave what no_leave;
}

-- it is neither of the two
pub apart_from_both : (config : Config) (what : What) → MayPost config what → (what ≢ Sit)
    × (what ≢ Leave)
apart_from_both config what may =
    (λ is. absurd (cc (may.sits, ap is_sit is)), λ is. absurd (cc (may.leaves, ap is_leave is)))
