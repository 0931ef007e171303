use Rattle.std.proofs.Common.{length, sym, ◌∙◌, ap}
use Rattle.commit.specs.ByteMap.{ByteMap}
use Rattle.commit.specs.Changed.{addresses_of}
use Rattle.commit.specs.Patched.{patched}
use Rattle.commit.proofs.ByteMaps.{addresses_of-byte_map}
use Rattle.commit.proofs.patch.changed.Goals as goal

pub returns : goal.returns
returns c =
    c.count.ensures ∙ ap length (sym (addresses_of-byte_map (patched c.patch.inside.pages)))
    ∙ ap (λ (bytes : ByteMap). length (addresses_of bytes)) c.patch.view_is
