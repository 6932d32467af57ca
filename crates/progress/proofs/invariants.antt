-- What holds after every run, whatever was lost, late or repeated: the ground of all laws.
--
-- `Sure` is the record that the other folders take: a world is coherent, what clients gave back and what voters finished fit
-- together (`Fitting`), requests are known only at members of their quorums (`Placed`), and INQUIREs are outstanding where they
-- have to be (`Outstanding`). `IsSure p w` says that this holds of w, and of each world that steps lead to from there. A `Course`
-- is what is fixed meanwhile: how quorums are dealt, which grants are old, and who is live.
--
-- What a message does to each vote of a client is a law of `requester`. `Inquiries` says what voters reply to requests
-- that they know.
pub mod Always
pub mod Fitting
pub mod Inquiries
pub mod Kept
pub mod Outstanding
pub mod Placed
pub mod Sure
