mod PoolLaws
