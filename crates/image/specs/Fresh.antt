-- A fresh image: every byte 0 but the configuration's state, Pending, and where the target remembers its values the byte that
-- says so (paper: The state; order 13). Assumes nothing.
use Rattle.std.specs.Prelude.{ℕ, ◌+◌, Bool, List, replicate}
use Rattle.fields.specs.Field.{put_field}
use Rattle.image.specs.Layout.{configuration_at, target_at, remembers_in, image_length}
use Rattle.image.specs.Records.{flag_code}

unfoldable pub zeros : ℕ → List ℕ
zeros n = replicate n 0

unfoldable pub fresh_image : Bool → List ℕ
fresh_image m = put_field (put_field (zeros image_length) configuration_at 1 1) (target_at + remembers_in) 1 (flag_code m)
