pub mod SmallestQuorums
