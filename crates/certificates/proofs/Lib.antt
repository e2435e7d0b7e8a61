pub mod ShardLaws
pub mod PairLaws
pub mod CountLaws
pub mod DecideLaws
pub mod QuorumLaws
pub mod ConflictLaws
pub mod RestLaws
pub mod GrowthLaws
